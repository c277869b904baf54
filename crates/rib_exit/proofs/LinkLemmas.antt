-- The four links beside others, set one after the other.
use Rattle.std.proofs.Common.{◌≡◌, Option, Some, refl, sym, ap, subst}
use Rattle.addr4.specs.Prefixes.{AddressPrefix}
use Rattle.link_change.specs.Rows.{Rows}
use Rattle.link_change.specs.Changes.{IsSent}
use Rattle.link_change.specs.Changes.{Change}
use Rattle.link_change.proofs.RowLemmas.{same_function}
use Rattle.rib_route.specs.Rows.{Interior}
use Rattle.rib_route.specs.Rows.{External}
use Rattle.rib_route.specs.Rows.{FibRow}
use Rattle.nexthop_resolver.specs.Ways.{Way}
use Rattle.nexthop_resolver.specs.Resolving.{Resolving}
use Rattle.rib_split.specs.declared.split.BgpLink.{BgpLink}
use Rattle.rib_split.specs.declared.split.BgpLink.TheVariants as sides
use Rattle.rib_split.specs.Splitting.{Parted, other, IsSentOn}
use Rattle.rib_split.specs.Laws.{merged_links}
use Rattle.ext_int.specs.Fibs.{fib_table}
use Rattle.journal_text.specs.declared.link.Link.{Link}
use Rattle.journal_text.specs.declared.link.Link.TheVariants.{Ebgp, Ibgp, Ext, Fib}
use Rattle.journal_text.specs.Lines.{Value}
use Rattle.journal_text.specs.Walk.{Links, with_link, Leads}
use Rattle.journal_text.specs.Values.{external_value, fib_value, fib_rows, valued_change, sent_entries}
use Rattle.journal_text.proofs.WalkLemmas.{leads_append, leads_sent}
use Rattle.rib_exit.specs.Exits.{external_rows, journal_link, links_of, beside}
use Rattle.rib_exit.specs.Passing.{Caused, caused_entries, part_entries}

-- `fib` alone is set
set_fib : (others : Links Value) (rows : Parted) (hops hops' : Resolving Way) (int int' : Rows Interior)
    → with_link (beside others (links_of rows hops int)) Fib (Some (fib_rows (fib_table hops' int' (merged_links rows)))) ≡ beside others (links_of rows hops' int')
set_fib others rows hops hops' int int' = same_function _ _ each
  where
    each : (link : Link) → with_link (beside others (links_of rows hops int)) Fib (Some (fib_rows (fib_table hops' int' (merged_links rows)))) link ≡ beside others (links_of rows hops' int') link
    each Ebgp = refl
    each other = refl

-- what comes out on `fib` leads on
pub fib_leads : (others : Links Value) (rows : Parted) (hops hops' : Resolving Way) (int int' : Rows Interior) (p : AddressPrefix) (sent : Option (Change FibRow))
    → IsSent (fib_table hops int (merged_links rows)) (fib_table hops' int' (merged_links rows)) p sent
    → Leads (beside others (links_of rows hops int)) (sent_entries fib_value Fib sent) (beside others (links_of rows hops' int'))
fib_leads others rows hops hops' int int' p sent is =
    subst (λ (l : Links Value). Leads (beside others (links_of rows hops int)) (sent_entries fib_value Fib sent) l) (set_fib others rows hops hops' int int')
    (leads_sent fib_value (λ x y e. cc) (beside others (links_of rows hops int)) Fib (fib_table hops int (merged_links rows)) (fib_table hops' int' (merged_links rows)) p sent refl is)

-- ---- a change of `ebgp` or `ibgp`, and then what it causes
module _ (others : Links Value) (rows now : Parted) (hops hops' : Resolving Way) (int : Rows Interior) where
  abbrev first : Links Value
  first = beside others (links_of rows hops int)

  abbrev on_link : BgpLink → Links Value
  on_link link = with_link first (journal_link link) (Some (external_rows (now link)))

  abbrev on_ext : BgpLink → Links Value
  on_ext link = with_link (on_link link) Ext (Some (external_rows (merged_links now)))

  abbrev on_fib : BgpLink → Links Value
  on_fib link = with_link (on_ext link) Fib (Some (fib_rows (fib_table hops' int (merged_links now))))

  link_there : (link : BgpLink) → first (journal_link link) ≡ Some (external_rows (rows link))
  link_there sides.Ebgp = refl
  link_there sides.Ibgp = refl

  ext_there : (link : BgpLink) → on_link link Ext ≡ Some (external_rows (merged_links rows))
  ext_there sides.Ebgp = refl
  ext_there sides.Ibgp = refl

  fib_there : (link : BgpLink) → on_ext link Fib ≡ Some (fib_rows (fib_table hops int (merged_links rows)))
  fib_there sides.Ebgp = refl
  fib_there sides.Ibgp = refl

  all_set : (link : BgpLink) → now (other link) ≡ rows (other link) → on_fib link ≡ beside others (links_of now hops' int)
  all_set sides.Ebgp same = same_function _ _ each
    where
      each : (link : Link) → on_fib sides.Ebgp link ≡ beside others (links_of now hops' int) link
      each Ibgp = ap (λ (r : Rows External). Some (external_rows r)) (sym same)
      each other = refl
  all_set sides.Ibgp same = same_function _ _ each
    where
      each : (link : Link) → on_fib sides.Ibgp link ≡ beside others (links_of now hops' int) link
      each Ebgp = ap (λ (r : Rows External). Some (external_rows r)) (sym same)
      each other = refl

  pub part_leads : (link : BgpLink) (p : AddressPrefix) (change : Change External) (caused : Caused) → IsSentOn link rows now p change
      → IsSent (merged_links rows) (merged_links now) p caused.ext → IsSent (fib_table hops int (merged_links rows)) (fib_table hops' int (merged_links now)) p caused.fib
      → Leads first (part_entries link change caused) (beside others (links_of now hops' int))
  part_leads link p change caused is ext fib =
      let a = leads_sent external_value (λ x y e. cc) first (journal_link link) (rows link) (now link) p (Some change) (link_there link) is.0 in
      let b = leads_sent external_value (λ x y e. cc) (on_link link) Ext (merged_links rows) (merged_links now) p caused.ext (ext_there link) ext in
      let c = leads_sent fib_value (λ x y e. cc) (on_ext link) Fib (fib_table hops int (merged_links rows)) (fib_table hops' int (merged_links now)) p caused.fib (fib_there link) fib in
      let bc = leads_append (on_link link) (on_ext link) (on_fib link) (sent_entries external_value Ext caused.ext) (sent_entries fib_value Fib caused.fib) b c in
      subst (λ (l : Links Value). Leads first (part_entries link change caused) l) (all_set link is.1)
      (leads_append first (on_link link) (on_fib link) (valued_change external_value (journal_link link) change) (caused_entries caused) a bc)
