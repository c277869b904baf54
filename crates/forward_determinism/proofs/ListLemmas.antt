-- The rows of a link, one after the other, are one list.
use Rattle.std.proofs.Common.{◌≡◌, true, false, cond, List, [], ◌∷◌, map, Option, Some, None, is_some, refl, sym, ap, ◌∙◌}
use Rattle.std.specs.Prelude.{IsSome}
use Rattle.std.specs.List.{Contains, AllByRecursion}
use Rattle.std.specs.Cmp.{eq_by_cmp_equiv}
use Rattle.std.specs.FinMap.{entries, from_entries, get-from_entries, find, same_map}
use Rattle.std.specs.FinMap.Entries.{is_some-find}
use Rattle.std.proofs.lemmas.Map.Views.{list_any-from_Contains}
use Rattle.addr4.specs.Prefixes.{AddressPrefix, prefix_cmp}
use Rattle.addr4.proofs.PrefixOrder.{prefixes_total, exact_prefixes, by_prefix}
use Rattle.link_change.specs.Rows.{Rows}
use Rattle.link_change.proofs.MapLemmas.{entries_kept}
use Rattle.journal_text.specs.Lines.{Value}
use Rattle.forward_determinism.specs.Laws.{ListedIsOne}

module _ (rows : Rows Value) (q : AddressPrefix) where
  -- what is found at a prefix in a list of rows is the row there
  found_is_row : (listed : List (AddressPrefix × Value)) (v : Value) → AllByRecursion (λ r. rows r.0 ≡ Some r.1) listed → find prefix_cmp q listed ≡ Some v → rows q ≡ Some v
  found_is_row [] v each found = absurd (let clash : None ≡ Some v = found in cc)
  found_is_row (r ∷ listed) v each found =
      by_prefix q r.0 (λ b. cond b (Some r.1) (find prefix_cmp q listed) ≡ Some v → rows q ≡ Some v) (λ here is. ap rows here ∙ each.0 ∙ is) (λ apart is. found_is_row listed v each.1 is) found

  -- and where all are listed, none is found only where there is none
  none_is_none : (listed : List (AddressPrefix × Value)) (row : Option Value) → (IsSome (rows q) → Contains (map (λ r. r.0) listed) q) → find prefix_cmp q listed ≡ None → rows q ≡ row → None ≡ row
  none_is_none listed None all none is = refl
  none_is_none listed (Some v) all none is =
      let there = list_any-from_Contains (eq_by_cmp_equiv prefixes_total) q (map (λ r. r.0) listed) (all (ap is_some is)) in
      absurd (let clash : false ≡ true = sym (ap is_some none) ∙ is_some-find prefix_cmp q listed ∙ there in cc)

  row_found : (listed : List (AddressPrefix × Value)) (row : Option Value) → AllByRecursion (λ r. rows r.0 ≡ Some r.1) listed → (IsSome (rows q) → Contains (map (λ r. r.0) listed) q) → find prefix_cmp q listed ≡ row → row ≡ rows q
  row_found listed None each all found = none_is_none listed (rows q) all found refl
  row_found listed (Some v) each all found = sym (found_is_row listed v each found)

pub listed_is_one : ListedIsOne
listed_is_one rows one other order each all order' each' all' =
    sym (entries_kept prefixes_total one order)
    ∙ ap entries (same_map prefixes_total exact_prefixes (from_entries one) (from_entries other) (λ q.
    get-from_entries prefixes_total one q ∙ row_found rows q one (find prefix_cmp q one) each (all q) refl
    ∙ sym (get-from_entries prefixes_total other q ∙ row_found rows q other (find prefix_cmp q other) each' (all' q) refl)))
    ∙ entries_kept prefixes_total other order'
