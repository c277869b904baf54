-- What comes of a change of the best routes.
use Rattle.std.proofs.Common.{◌≡◌, ◌⊎◌, ℕ, Bool, true, false, not, cond, List, [], ◌++◌, Option, Some, None, Result, Ok, Err, IfOk, refl, sym, ap, subst, ◌∙◌, inl, inr}
use Rattle.std.specs.Option.{option_or}
use Rattle.addr4.specs.Prefixes.{AddressPrefix}
use Rattle.bgp_attr.specs.Routes.{Route}
use Rattle.link_change.specs.Rows.{Rows}
use Rattle.link_change.specs.Changes.{IsSent}
use Rattle.link_change.specs.Changes.{Change}
use Rattle.link_change.proofs.RowLemmas.{with_row_here}
use Rattle.rib_route.specs.Rows.{Interior}
use Rattle.rib_route.specs.Rows.{External}
use Rattle.rib_route.specs.Rows.{FibRow}
use Rattle.register_interest.specs.Registers.{Registry, AllStand as MatchesStand}
use Rattle.nexthop_known.specs.Counts.{AreCounted}
use Rattle.nexthop_resolver.specs.Ways.{Way}
use Rattle.nexthop_resolver.specs.Kept.{external_hop, way_of}
use Rattle.nexthop_resolver.specs.Resolving.{Resolving, AreNamed, named_by}
use Rattle.nexthop_known.specs.Hops.{Hop}
use Rattle.nexthop_resolver.specs.Registered.{Agrees, KeepsOthers, told_of}
use Rattle.nexthop_resolver.specs.Takes.{Keeps}
use Rattle.nexthop_resolver.proofs.AskLemmas.{same_told, keeps_all}
use Rattle.rib_split.specs.declared.split.BgpLink.{BgpLink}
use Rattle.rib_split.specs.declared.split.BgpLink.TheVariants as sides
use Rattle.rib_split.specs.Splits.{Split}
use Rattle.rib_split.specs.declared.split.Split.TheVariants.{Neither, One, Moved}
use Rattle.rib_split.specs.declared.splitter.Splitter.{Splitter}
use Rattle.rib_split.specs.Splitting.{Parted, external_row, on_link, split_rows, other, first_on, IsSentOn, Moves, Splits}
use Rattle.rib_split.specs.Tables.{kept_rows, SplitsOn}
use Rattle.rib_split.specs.Laws.{merged_links}
use Rattle.rib_split.proofs.MergedLemmas.{moved_changes_once}
use Rattle.ext_int.specs.Fibs.{fib_table, TakesOver}
use Rattle.journal_text.specs.Lines.{Entry}
use Rattle.journal_text.specs.Lines.{Value}
use Rattle.journal_text.specs.Walk.{Leads}
use Rattle.journal_text.specs.Journals.{Journaled, Adds}
use Rattle.journal_text.proofs.WalkLemmas.{leads_nowhere, leads_append}
use Rattle.journal_text.proofs.JournalLemmas.{with_entries_none}
use Rattle.rib_exit.specs.RibExits.{RibExit}
use Rattle.rib_exit.specs.Exits.{links_of, beside, IsExit, AgreesWith, StandsOver}
use Rattle.rib_exit.specs.Passing.{Caused, nothing_caused, part_entries, PassesDown, PassesBoth}
use Rattle.rib_exit.specs.Steps.{LeadsExit, KeepsAgreed, CausesOn, FallsOn, TakesExternal}
use Rattle.rib_exit.proofs.PassLemmas.{none_sent, passed_ext, passed_over, passed_leads, caused_keeps, caused_none, caused_same}

pub if_ok : {X E : Type 0} {P Q : X → Type 0} (r : Result X E) → ((x : X) → P x → Q x) → IfOk r P → IfOk r Q
if_ok (Ok x) f p = f x p
if_ok (Err e) f p = tt

pub else_none : {X : Type 0} (o : Option X) → option_or o None ≡ o
else_none None = refl
else_none (Some x) = refl

-- where a row stands on one link, or comes there, the other has none: a best route is on one link
on_one : (link : BgpLink) (row : Option External) → (on_link link row ≡ None → ⊥) → on_link (other link) row ≡ None
on_one link None there = refl
on_one sides.Ebgp (Some r) there = by r.internal there
  where
    by : (b : Bool) → (cond (not b) (Some r) None ≡ None → ⊥) → cond b (Some r) None ≡ None
    by true there = absurd (there refl)
    by false there = refl
on_one sides.Ibgp (Some r) there = by r.internal there
  where
    by : (b : Bool) → (cond b (Some r) None ≡ None → ⊥) → cond (not b) (Some r) None ≡ None
    by true there = refl
    by false there = absurd (there refl)

other_has_none : (link : BgpLink) (best now : Rows Route) (p : AddressPrefix) (change : Change External) → IsSentOn link (split_rows best) (split_rows now) p change
    → split_rows best (other link) change.prefix ≡ None
other_has_none link best now p change is = by change.before refl
  where
    by : (before : Option External) → change.before ≡ before → split_rows best (other link) change.prefix ≡ None
    by (Some r) e = on_one link (external_row (best change.prefix)) (λ none. let clash : None ≡ Some r = sym none ∙ is.0.1.0 ∙ e in cc)
    by None e =
        ap (λ (rows : Rows External). rows change.prefix) (sym is.1)
        ∙ on_one link (external_row (now change.prefix))
        (λ none. is.0.1.1 (sym (e ∙ sym none ∙ ap (λ (rows : Rows External). rows change.prefix) is.0.2 ∙ with_row_here (split_rows best link) change.prefix change.after)))

-- what is kept of next hops that stay
keeps_same : (was : Registry Interior) (s : Resolving Way) → Keeps (told_of way_of was) s s
keeps_same was s = record { client = refl; walk = refl; hops = λ a h at. inl at }

-- the same, over the rows of the two links
pub record FallsOver (p : AddressPrefix) (int : Rows Interior) (split : Split) (first second : Caused) (was : Registry Interior) (hops hops' : Resolving Way) (entries : List (Entry Value)) (rows now : Parted) : Type 0 where
  pub causes : CausesOn p split first.ext second.ext rows now
  pub ext : IsSent (merged_links rows) (merged_links now) p (option_or first.ext second.ext)
  pub fib : IsSent (fib_table hops int (merged_links rows)) (fib_table hops' int (merged_links now)) p (option_or first.fib second.fib)
  pub once : (first.ext ≡ None) ⊎ (second.ext ≡ None)
  pub first_by : first.ext ≡ None → first.fib ≡ None
  pub second_by : second.ext ≡ None → second.fib ≡ None
  pub keeps : Keeps (told_of way_of was) hops hops'
  pub leads : LeadsExit (links_of rows hops int) entries (links_of now hops' int)
  pub counted : AreCounted (named_by external_hop (merged_links now)) hops'.counts

-- ---- neither link changes
pub falls_nowhere : (p : AddressPrefix) (int : Rows Interior) (was : Registry Interior) (hops : Resolving Way) (rows now : Parted) → now ≡ rows → AreCounted (named_by external_hop (merged_links rows)) hops.counts
    → FallsOver p int Neither nothing_caused nothing_caused was hops hops [] rows now
falls_nowhere p int was hops rows now same counted = record {
  causes = (refl, refl);
  ext = ap merged_links same;
  fib = ap (λ (r : Parted). fib_table hops int (merged_links r)) same;
  once = inl refl;
  first_by = λ _. refl;
  second_by = λ _. refl;
  keeps = keeps_same was hops;
  leads = λ others. leads_nowhere _ _ (ap (λ (r : Parted). beside others (links_of r hops int)) (sym same));
  counted = subst (λ (r : Parted). AreCounted (named_by external_hop (merged_links r)) hops.counts) (sym same) counted;
}

-- ---- one does
pub falls_one : (p : AddressPrefix) (int : Rows Interior) (was : Registry Interior) (hops hops' : Resolving Way) (link : BgpLink) (change : Change External) (row : Option External)
    (sent : Option (Change FibRow)) (entries : List (Entry Value)) (d : PassesDown link change row int was hops hops' sent entries) (rows now : Parted) → IsSentOn link rows now p change
    → rows (other link) change.prefix ≡ row → AreCounted (named_by external_hop (merged_links rows)) hops.counts
    → FallsOver p int (One link change) d.caused nothing_caused was hops hops' entries rows now
falls_one p int was hops hops' link change row sent entries d rows now is at counted =
    let over = passed_over int was hops hops' link change row sent entries d rows now p is at counted in
    let ext = passed_ext int was hops hops' link change row sent entries d rows now p is at counted in
    record {
      causes = (ext, refl);
      ext = subst (λ (o : Option (Change External)). IsSent (merged_links rows) (merged_links now) p o) (sym (else_none d.caused.ext)) ext;
      fib = subst (λ (o : Option (Change FibRow)). IsSent (fib_table hops int (merged_links rows)) (fib_table hops' int (merged_links now)) p o) (sym (else_none d.caused.fib)) over.sent_is;
      once = inr refl;
      first_by = caused_none int was hops hops' d.caused.ext d.caused.fib d.takes;
      second_by = λ _. refl;
      keeps = caused_keeps int was hops hops' d.caused.ext d.caused.fib d.takes;
      leads = passed_leads int was hops hops' link change row sent entries d rows now p is at counted;
      counted = over.counted;
    }

back_to : (link : BgpLink) → other (other link) ≡ link
back_to sides.Ebgp = refl
back_to sides.Ibgp = refl

module _ (p : AddressPrefix) (int : Rows Interior) (was : Registry Interior) (hops hops' : Resolving Way) (link : BgpLink) (add delete : Change External) (sent : Option (Change FibRow))
    (entries : List (Entry Value)) (d : PassesBoth link add delete int was hops hops' sent entries) (best now : Rows Route) (m : Moves link (split_rows best) (split_rows now) p add delete)
    (counted : AreCounted (named_by external_hop (merged_links (split_rows best))) hops.counts) where
  abbrev rows : Parted
  rows = split_rows best

  abbrev half : Parted
  half = first_on link (split_rows best) (split_rows now)

  abbrev then_rows : Parted
  then_rows = split_rows now

  -- the other link has the row that is deleted then
  add_at : rows (other link) add.prefix ≡ delete.before
  add_at =
      ap (rows (other link)) (m.first.0.0 ∙ sym m.second.0.0) ∙ ap (λ (r : Rows External). r delete.prefix) (sym m.first.1) ∙ m.second.0.1.0

  -- this link has the row that was added
  delete_at : half (other (other link)) delete.prefix ≡ add.after
  delete_at =
      ap (λ (l : BgpLink). half l delete.prefix) (back_to link) ∙ ap (half link) (m.second.0.0 ∙ sym m.first.0.0)
      ∙ ap (λ (r : Rows External). r add.prefix) m.first.0.2 ∙ with_row_here (rows link) add.prefix add.after

  over_1 : TakesOver int hops d.mid (merged_links rows) (merged_links half) p d.first.caused.fib
  over_1 = passed_over int was hops d.mid link add delete.before d.first_sent d.first_entries d.first rows half p m.first add_at counted

  ext_1 : IsSent (merged_links rows) (merged_links half) p d.first.caused.ext
  ext_1 = passed_ext int was hops d.mid link add delete.before d.first_sent d.first_entries d.first rows half p m.first add_at counted

  over_2 : TakesOver int d.mid hops' (merged_links half) (merged_links then_rows) p d.second.caused.fib
  over_2 = passed_over int d.between d.mid hops' (other link) delete add.after d.second_sent d.second_entries d.second half then_rows p m.second delete_at over_1.counted

  ext_2 : IsSent (merged_links half) (merged_links then_rows) p d.second.caused.ext
  ext_2 = passed_ext int d.between d.mid hops' (other link) delete add.after d.second_sent d.second_entries d.second half then_rows p m.second delete_at over_1.counted

  both_lead : LeadsExit (links_of rows hops int) entries (links_of then_rows hops' int)
  both_lead others =
      subst (λ (es : List (Entry Value)). Leads (beside others (links_of rows hops int)) es (beside others (links_of then_rows hops' int))) (sym d.lines)
      (leads_append (beside others (links_of rows hops int)) (beside others (links_of half d.mid int)) (beside others (links_of then_rows hops' int)) d.first_entries d.second_entries
      (passed_leads int was hops d.mid link add delete.before d.first_sent d.first_entries d.first rows half p m.first add_at counted others)
      (passed_leads int d.between d.mid hops' (other link) delete add.after d.second_sent d.second_entries d.second half then_rows p m.second delete_at over_1.counted others))

  first_caused : d.first.caused.ext ≡ None → d.first.caused.fib ≡ None
  first_caused = caused_none int was hops d.mid d.first.caused.ext d.first.caused.fib d.first.takes

  second_caused : d.second.caused.ext ≡ None → d.second.caused.fib ≡ None
  second_caused = caused_none int d.between d.mid hops' d.second.caused.ext d.second.caused.fib d.second.takes

  -- the add stops at its link, and the delete goes on
  add_stops : merged_links half ≡ merged_links rows → FallsOver p int (Moved link add delete) d.first.caused d.second.caused was hops hops' entries rows then_rows
  add_stops same =
      let none = none_sent (merged_links rows) (merged_links half) p d.first.caused.ext same ext_1 in
      let kept = caused_same int was hops d.mid d.first.caused.ext d.first.caused.fib d.first.takes none in
      let keeps = caused_keeps int d.between d.mid hops' d.second.caused.ext d.second.caused.fib d.second.takes in
      record {
        causes = (ext_1, ext_2);
        ext = subst (λ (o : Option (Change External)). IsSent (merged_links rows) (merged_links then_rows) p (option_or o d.second.caused.ext)) (sym none)
            (subst (λ (r : Rows External). IsSent r (merged_links then_rows) p d.second.caused.ext) same ext_2);
        fib = subst (λ (o : Option (Change FibRow)). IsSent (fib_table hops int (merged_links rows)) (fib_table hops' int (merged_links then_rows)) p (option_or o d.second.caused.fib)) (sym (first_caused none))
            (subst (λ (s : Resolving Way). IsSent (fib_table s int (merged_links rows)) (fib_table hops' int (merged_links then_rows)) p d.second.caused.fib) kept
            (subst (λ (r : Rows External). IsSent (fib_table d.mid int r) (fib_table hops' int (merged_links then_rows)) p d.second.caused.fib) same over_2.sent_is));
        once = inl none;
        first_by = first_caused;
        second_by = second_caused;
        keeps = subst (λ (s : Resolving Way). Keeps (told_of way_of was) s hops') kept
            (subst (λ (told : ℕ → Hop Way → Type 0). Keeps told d.mid hops') (same_told way_of was d.between d.same_rows) keeps);
        leads = both_lead;
        counted = over_2.counted;
      }

  -- the add goes on, and the delete stops at its link
  delete_stops : merged_links then_rows ≡ merged_links half → FallsOver p int (Moved link add delete) d.first.caused d.second.caused was hops hops' entries rows then_rows
  delete_stops same =
      let none = none_sent (merged_links half) (merged_links then_rows) p d.second.caused.ext same ext_2 in
      let kept = caused_same int d.between d.mid hops' d.second.caused.ext d.second.caused.fib d.second.takes none in
      let keeps = caused_keeps int was hops d.mid d.first.caused.ext d.first.caused.fib d.first.takes in
      record {
        causes = (ext_1, ext_2);
        ext = subst (λ (o : Option (Change External)). IsSent (merged_links rows) (merged_links then_rows) p o) (sym (ap (option_or d.first.caused.ext) none ∙ else_none d.first.caused.ext))
            (subst (λ (r : Rows External). IsSent (merged_links rows) r p d.first.caused.ext) (sym same) ext_1);
        fib = subst (λ (o : Option (Change FibRow)). IsSent (fib_table hops int (merged_links rows)) (fib_table hops' int (merged_links then_rows)) p o) (sym (ap (option_or d.first.caused.fib) (second_caused none) ∙ else_none d.first.caused.fib))
            (subst (λ (s : Resolving Way). IsSent (fib_table hops int (merged_links rows)) (fib_table s int (merged_links then_rows)) p d.first.caused.fib) (sym kept)
            (subst (λ (r : Rows External). IsSent (fib_table hops int (merged_links rows)) (fib_table d.mid int r) p d.first.caused.fib) (sym same) over_1.sent_is));
        once = inr none;
        first_by = first_caused;
        second_by = second_caused;
        keeps = subst (λ (s : Resolving Way). Keeps (told_of way_of was) hops s) (sym kept) keeps;
        leads = both_lead;
        counted = over_2.counted;
      }

  pub falls_both : FallsOver p int (Moved link add delete) d.first.caused d.second.caused was hops hops' entries rows then_rows
  falls_both = elim (moved_changes_once best now link p add delete m) [
    | inl same ↦ add_stops same
    | inr same ↦ delete_stops same
  ]

-- ---- as a step of the exit
module _ (int : Rows Interior) (was is : Registry Interior) (e : RibExit) (s' : Splitter) (hops' : Resolving Way) where
  abbrev e' : RibExit
  e' = record { splitter = s'; forwarding = hops' }

  pub agreed : IsExit e → hops'.client ≡ e.forwarding.client → AreNamed hops'.counts hops'.known → Agrees way_of hops'.client hops'.known is → KeepsOthers e.forwarding.client was is
      → MatchesStand is → KeepsAgreed was is e'
  agreed sound client named agree others stand = record {
    sound = record { client = client ∙ sound.client; named = named };
    agree = agree;
    others = subst (λ (n : ℕ). KeepsOthers n was is) sound.client others;
    stands = stand;
  }

  falls_on : (p : AddressPrefix) (split : Split) (first second : Caused) (entries : List (Entry Value)) (best now : Rows Route) → Splits (split_rows best) (split_rows now) p split
      → kept_rows e.splitter ≡ split_rows best → kept_rows s' ≡ split_rows now → FallsOver p int split first second was e.forwarding hops' entries (split_rows best) (split_rows now)
      → FallsOn p int split first second was e e' entries best now
  falls_on p split first second entries best now splits had has over =
      let o = subst (λ (r : Parted). FallsOver p int split first second was e.forwarding hops' entries r (kept_rows s')) (sym had)
      (subst (λ (r : Parted). FallsOver p int split first second was e.forwarding hops' entries (split_rows best) r) (sym has) over) in
      record {
        splits = splits;
        causes = over.causes;
        ext = o.ext;
        fib = o.fib;
        once = o.once;
        first_by = o.first_by;
        second_by = o.second_by;
        keeps = o.keeps;
        leads = o.leads;
        stands = record { links = has; counted = o.counted };
      }

  counted_there : (best : Rows Route) → StandsOver best e → AreCounted (named_by external_hop (merged_links (split_rows best))) e.forwarding.counts
  counted_there best stands = subst (λ (r : Parted). AreCounted (named_by external_hop (merged_links r)) e.forwarding.counts) stands.links stands.counted

  module _ (change : Change Route) (kept : KeepsAgreed was is e') (before after : Journaled) where
    pub takes_one : (link : BgpLink) (c : Change External) (sent : Option (Change FibRow)) → SplitsOn e.splitter s' change (One link c)
        → Adds (PassesDown link c None int was e.forwarding hops' sent) before after → Adds (TakesExternal change int sent was is e e') before after
    takes_one link c sent law passed =
        let d = passed.2 in (
          passed.0,
          passed.1,
          record {
            split = One link c;
            first = d.caused;
            second = nothing_caused;
            lines = d.lines;
            comes = d.comes ∙ sym (else_none d.caused.fib);
            agreed = kept;
            goes = λ best now p stands led.
                let l = law best now p led stands.links in
                falls_on p (One link c) d.caused nothing_caused passed.0 best now l.0 stands.links l.1
                (falls_one p int was e.forwarding hops' link c None sent passed.0 d (split_rows best) (split_rows now) l.0 (other_has_none link best now p c l.0) (counted_there best stands));
          },
        )

    pub takes_both : (link : BgpLink) (add delete : Change External) (sent : Option (Change FibRow)) → SplitsOn e.splitter s' change (Moved link add delete)
        → Adds (PassesBoth link add delete int was e.forwarding hops' sent) before after → Adds (TakesExternal change int sent was is e e') before after
    takes_both link add delete sent law passed =
        let d = passed.2 in (
          passed.0,
          passed.1,
          record {
            split = Moved link add delete;
            first = d.first.caused;
            second = d.second.caused;
            lines = d.lines ∙ ap (λ (es : List (Entry Value)). es ++ d.second_entries) d.first.lines ∙ ap (λ (es : List (Entry Value)). part_entries link add d.first.caused ++ es) d.second.lines;
            comes = d.comes ∙ ap (λ (o : Option (Change FibRow)). option_or o d.second_sent) d.first.comes ∙ ap (option_or d.first.caused.fib) d.second.comes;
            agreed = kept;
            goes = λ best now p stands led.
                let l = law best now p led stands.links in
                falls_on p (Moved link add delete) d.first.caused d.second.caused passed.0 best now l.0 stands.links l.1
                (falls_both p int was e.forwarding hops' link add delete sent passed.0 d best now l.0 (counted_there best stands));
          },
        )

-- nothing goes on
pub takes_neither : (int : Rows Interior) (was : Registry Interior) (e : RibExit) (s' : Splitter) (change : Change Route) (before : Journaled) → IsExit e → AgreesWith e was → MatchesStand was
    → SplitsOn e.splitter s' change Neither → Adds (TakesExternal change int None was was e (record { splitter = s'; forwarding = e.forwarding })) before before
takes_neither int was e s' change before sound agree stand law = (
  [],
  sym (with_entries_none before),
  record {
    split = Neither;
    first = nothing_caused;
    second = nothing_caused;
    lines = refl;
    comes = refl;
    agreed = agreed int was was e s' e.forwarding sound refl sound.named agree (keeps_all e.forwarding.client was) stand;
    goes = λ best now p stands led.
        let l = law best now p led stands.links in
        falls_on int was was e s' e.forwarding p Neither nothing_caused nothing_caused [] best now l.0 stands.links l.1
        (falls_nowhere p int was e.forwarding (split_rows best) (split_rows now) l.0 (counted_there int was was e s' e.forwarding best stands));
  },
)
