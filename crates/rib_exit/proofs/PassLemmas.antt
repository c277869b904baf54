-- One change of `ebgp` or `ibgp`, as it goes down.
use Rattle.std.proofs.Common.{◌≡◌, List, ◌++◌, Option, Some, None, refl, sym, ap, subst, ◌∙◌, inl}
use Rattle.std.proofs.lemmas.List.{append-nil}
use Rattle.std.specs.Option.{option_or}
use Rattle.std.specs.FinMap as map
use Rattle.addr4.specs.Prefixes.{AddressPrefix}
use Rattle.link_change.specs.Rows.{Rows}
use Rattle.link_change.specs.Changes.{IsSent}
use Rattle.link_change.specs.Changes.{Change}
use Rattle.link_change.proofs.RowLemmas.{with_row_here}
use Rattle.rib_route.specs.Rows.{Interior}
use Rattle.rib_route.specs.Rows.{External}
use Rattle.rib_route.specs.Rows.{FibRow}
use Rattle.rib_merge.specs.declared.merge.Side.{Side}
use Rattle.rib_merge.specs.Merging.{merged, MergesOn}
use Rattle.register_interest.specs.Registers.{Registry}
use Rattle.nexthop_known.specs.Counts.{Counts, AreCounted}
use Rattle.nexthop_resolver.specs.Ways.{Way}
use Rattle.nexthop_resolver.specs.Kept.{external_hop, way_of}
use Rattle.nexthop_resolver.specs.Resolving.{Resolving, named_by}
use Rattle.nexthop_resolver.specs.Registered.{told_of}
use Rattle.nexthop_resolver.specs.Takes.{Keeps}
use Rattle.rib_split.specs.declared.split.BgpLink.{BgpLink}
use Rattle.rib_split.specs.declared.split.BgpLink.TheVariants as sides
use Rattle.rib_split.specs.Splitting.{Parted, other, IsSentOn}
use Rattle.rib_split.specs.Laws.{merged_links}
use Rattle.ext_int.specs.Fibs.{fib_table, TakesOver, TakesExt}
use Rattle.journal_text.specs.declared.link.Link.{Link}
use Rattle.journal_text.specs.declared.link.Link.TheVariants.{Ext, Fib}
use Rattle.journal_text.specs.Lines.{Entry}
use Rattle.journal_text.specs.Lines.{Value}
use Rattle.journal_text.specs.Walk.{Leads}
use Rattle.journal_text.specs.Journals.{Journaled, with_entries, Adds}
use Rattle.journal_text.specs.Values.{external_value, fib_value, valued_change, sent_entries}
use Rattle.journal_text.proofs.FallLemmas.{and_then}
use Rattle.rib_exit.specs.Exits.{journal_link, links_of, beside}
use Rattle.rib_exit.specs.Passing.{Caused, nothing_caused, caused_entries, part_entries, side_of, external_distance, TakesCaused, PassesDown, PassesBoth}
use Rattle.rib_exit.specs.Steps.{LeadsExit}
use Rattle.rib_exit.proofs.LinkLemmas.{part_leads}

-- nothing is sent where the rows stay
pub none_sent : {R : Type 0} (old new : Rows R) (p : AddressPrefix) (sent : Option (Change R)) → new ≡ old → IsSent old new p sent → sent ≡ None
none_sent old new p None same is = refl
none_sent {R} old new p (Some change) same is =
    absurd (is.1.1 (sym (with_row_here old change.prefix change.after) ∙ ap (λ (r : Rows R). r change.prefix) (sym is.2) ∙ ap (λ (r : Rows R). r change.prefix) same ∙ is.1.0))

-- the merge, where one link changes
pub merged_by : (link : BgpLink) (old new : Parted) (p : AddressPrefix) (change : Change External) (row : Option External) (result : Option (Change External))
    → MergesOn external_distance (side_of link) change row result → IsSentOn link old new p change → old (other link) change.prefix ≡ row
    → IsSent (merged_links old) (merged_links new) p result
merged_by sides.Ebgp old new p change row result merges is at =
    subst (λ (r : Rows External). IsSent (merged_links old) (merged external_distance (new sides.Ebgp) r) p result) (sym is.1)
    (merges (old sides.Ebgp) (new sides.Ebgp) (old sides.Ibgp) p at is.0)
merged_by sides.Ibgp old new p change row result merges is at =
    subst (λ (r : Rows External). IsSent (merged_links old) (merged external_distance r (new sides.Ibgp)) p result) (sym is.1)
    (merges (old sides.Ibgp) (new sides.Ibgp) (old sides.Ebgp) p at is.0)

module _ (int : Rows Interior) (was : Registry Interior) (old new : Resolving Way) where
  -- what a change of `ext` makes, or that none comes
  caused_over : (rows now : Rows External) (p : AddressPrefix) (ext : Option (Change External)) (fib : Option (Change FibRow)) → AreCounted (named_by external_hop rows) old.counts
      → IsSent rows now p ext → TakesCaused int was old new ext fib → TakesOver int old new rows now p fib
  caused_over rows now p None fib counted same kept = record {
    counted = subst (λ (r : Rows External). AreCounted (named_by external_hop r) new.counts) (sym same)
        (subst (λ (n : Counts). AreCounted (named_by external_hop rows) n) (sym (ap (λ (s : Resolving Way). s.counts) kept.0)) counted);
    sent_is = subst (λ (o : Option (Change FibRow)). IsSent (fib_table old int rows) (fib_table new int now) p o) (sym kept.1)
        (ap (fib_table new int) same ∙ ap (λ (s : Resolving Way). fib_table s int rows) kept.0);
  }
  caused_over rows now p (Some change) fib counted is takes = takes.0 rows now p counted is

  pub caused_keeps : (ext : Option (Change External)) (fib : Option (Change FibRow)) → TakesCaused int was old new ext fib → Keeps (told_of way_of was) old new
  caused_keeps None fib kept = record {
    client = ap (λ (s : Resolving Way). s.client) kept.0;
    walk = ap (λ (s : Resolving Way). s.walk) kept.0;
    hops = λ a h at. inl (ap (λ (s : Resolving Way). map.get s.known a) (sym kept.0) ∙ at);
  }
  caused_keeps (Some change) fib takes = takes.1

  pub caused_none : (ext : Option (Change External)) (fib : Option (Change FibRow)) → TakesCaused int was old new ext fib → ext ≡ None → fib ≡ None
  caused_none None fib kept none = kept.1
  caused_none (Some change) fib takes none = absurd (let clash : Some change ≡ None = none in cc)

  pub caused_same : (ext : Option (Change External)) (fib : Option (Change FibRow)) → TakesCaused int was old new ext fib → ext ≡ None → new ≡ old
  caused_same None fib kept none = kept.0
  caused_same (Some change) fib takes none = absurd (let clash : Some change ≡ None = none in cc)

  module _ (link : BgpLink) (change : Change External) (row : Option External) (sent : Option (Change FibRow)) (entries : List (Entry Value))
      (d : PassesDown link change row int was old new sent entries) (rows now : Parted) (p : AddressPrefix) (is : IsSentOn link rows now p change)
      (at : rows (other link) change.prefix ≡ row) (counted : AreCounted (named_by external_hop (merged_links rows)) old.counts) where
    pub passed_ext : IsSent (merged_links rows) (merged_links now) p d.caused.ext
    passed_ext = merged_by link rows now p change row d.caused.ext d.merges is at

    pub passed_over : TakesOver int old new (merged_links rows) (merged_links now) p d.caused.fib
    passed_over = caused_over (merged_links rows) (merged_links now) p d.caused.ext d.caused.fib counted passed_ext d.takes

    pub passed_leads : LeadsExit (links_of rows old int) entries (links_of now new int)
    passed_leads others =
        subst (λ (es : List (Entry Value)). Leads (beside others (links_of rows old int)) es (beside others (links_of now new int))) (sym d.lines)
        (part_leads others rows now old new int link p change d.caused is passed_ext passed_over.sent_is)

-- ---- what the code finds
module _ (link : BgpLink) (name : Link) (named : name ≡ journal_link link) (side : Side) (on : side ≡ side_of link) (change : Change External) (row : Option External) (int : Rows Interior)
    (was : Registry Interior) (old : Resolving Way) (before mid : Journaled) (line : mid ≡ with_entries before (valued_change external_value name change)) where
  first_line : mid ≡ with_entries before (valued_change external_value (journal_link link) change)
  first_line = line ∙ ap (λ (l : Link). with_entries before (valued_change external_value l change)) named

  merged_on_side : (result : Option (Change External)) → MergesOn external_distance side change row result → MergesOn external_distance (side_of link) change row result
  merged_on_side result merges = subst (λ (s : Side). MergesOn external_distance s change row result) on merges

  -- `ext` stays
  pub passes_silent : MergesOn external_distance side change row None → Adds (PassesDown link change row int was old old None) before mid
  passes_silent merges = (
    part_entries link change nothing_caused,
    first_line ∙ ap (with_entries before) (sym (append-nil (valued_change external_value (journal_link link) change))),
    record { caused = nothing_caused; comes = refl; lines = refl; merges = merged_on_side None merges; takes = (refl, refl) },
  )

  -- it changes
  pub passes_on : (merged : Change External) (new : Resolving Way) (sent : Option (Change FibRow)) (then_ after : Journaled) → MergesOn external_distance side change row (Some merged)
      → TakesExt int old new merged sent → Keeps (told_of way_of was) old new → then_ ≡ with_entries mid (valued_change external_value Ext merged)
      → after ≡ with_entries then_ (sent_entries fib_value Fib sent) → Adds (PassesDown link change row int was old new sent) before after
  passes_on merged new sent then_ after merges takes keeps second third =
      let caused : Caused = record { ext = Some merged; fib = sent } in (
        part_entries link change caused,
        and_then before mid after (valued_change external_value (journal_link link) change) (caused_entries caused) first_line
            (and_then mid then_ after (valued_change external_value Ext merged) (sent_entries fib_value Fib sent) second third),
        record { caused = caused; comes = refl; lines = refl; merges = merged_on_side (Some merged) merges; takes = (takes, keeps) },
      )

-- both parts
pub passes_both : (link back : BgpLink) (turned : back ≡ other link) (add delete : Change External) (int : Rows Interior) (was between : Registry Interior) (old mid new : Resolving Way)
    (first_sent second_sent sent : Option (Change FibRow)) (before half after : Journaled) → between.rows ≡ was.rows → sent ≡ option_or first_sent second_sent
    → Adds (PassesDown link add delete.before int was old mid first_sent) before half → Adds (PassesDown back delete add.after int between mid new second_sent) half after
    → Adds (PassesBoth link add delete int was old new sent) before after
passes_both link back turned add delete int was between old mid new first_sent second_sent sent before half after same comes first second = (
  first.0 ++ second.0,
  and_then before half after first.0 second.0 first.1 second.1,
  record {
    mid = mid;
    between = between;
    same_rows = same;
    first_sent = first_sent;
    second_sent = second_sent;
    first_entries = first.0;
    second_entries = second.0;
    first = first.2;
    second = subst (λ (l : BgpLink). PassesDown l delete add.after int between mid new second_sent second.0) turned second.2;
    lines = refl;
    comes = comes;
  },
)
