-- Which row of `int` stands.
use Rattle.std.proofs.Common.{◌≡◌, ◌≤◌, ◌⊎◌, Some, None, refl, sym, subst, ◌∙◌, inl, inr, arith}
use Rattle.addr4.specs.Prefixes.{AddressPrefix}
use Rattle.rib_route.specs.declared.Proto.{Proto}
use Rattle.rib_route.specs.declared.Proto.TheVariants.{Connected, Static, Ospf, Rip}
use Rattle.rib_route.specs.Rows.{Interior}
use Rattle.rib_merge.specs.Merging.{merged}
use Rattle.rib_merge.specs.Laws.{IsOfOneSide, IsLeastOfBoth, HasARow}
use Rattle.link_change.specs.Rows.{Rows}
use Rattle.rib_tree.specs.Branches.{org_rows}
use Rattle.rib_tree.specs.Laws.{RowsAreOwn}
use Rattle.rib_tree.specs.Trees.{Treed, branch_of, low_rows, dyn_rows, int_rows, interior_distance}
use Rattle.rib_tree.specs.Laws.{TheLeastDistanceStands, EachRowCounts}

abbrev both : Rows Interior → Rows Interior → Rows Interior
both = merged interior_distance

module _ (one : IsOfOneSide Interior) (least : IsLeastOfBoth Interior) (there : HasARow Interior) where
  -- where a side has a row, there is a merged one of no greater distance
  lesser : (left right : Rows Interior) (p : AddressPrefix) (other : Interior) → (left p ≡ Some other) ⊎ (right p ≡ Some other) → (row : Interior) × (both left right p ≡ Some row) × (interior_distance row ≤ interior_distance other)
  lesser left right p other side =
      elim (both left right p) as (λ o. both left right p ≡ o → (row : Interior) × (both left right p ≡ Some row) × (interior_distance row ≤ interior_distance other)) [
        | None ↦ λ e. let none = there interior_distance left right p e in absurd (elim side as (λ _. ⊥) [ inl l ↦ let clash : None ≡ Some other = sym none.0 ∙ l in cc | inr r ↦ let clash : None ≡ Some other = sym none.1 ∙ r in cc ])
        | Some row ↦ λ e. (row, e, least interior_distance left right p row other e side)
      ] refl

  below_low : (t : Treed) (p : AddressPrefix) (row other : Interior) → int_rows t p ≡ Some row → (org_rows t.connected p ≡ Some other) ⊎ (org_rows t.statics p ≡ Some other) → interior_distance row ≤ interior_distance other
  below_low t p row other is side =
      let middle = lesser (org_rows t.connected) (org_rows t.statics) p other side in
      let first : interior_distance middle.0 ≤ interior_distance other = middle.2 in
      let last : interior_distance row ≤ interior_distance middle.0 = least interior_distance (low_rows t) (dyn_rows t) p row middle.0 is (inl middle.1) in
      omega (arith, first, last)

  below_dyn : (t : Treed) (p : AddressPrefix) (row other : Interior) → int_rows t p ≡ Some row → (org_rows t.ospf p ≡ Some other) ⊎ (org_rows t.rip p ≡ Some other) → interior_distance row ≤ interior_distance other
  below_dyn t p row other is side =
      let middle = lesser (org_rows t.ospf) (org_rows t.rip) p other side in
      let first : interior_distance middle.0 ≤ interior_distance other = middle.2 in
      let last : interior_distance row ≤ interior_distance middle.0 = least interior_distance (low_rows t) (dyn_rows t) p row middle.0 is (inr middle.1) in
      omega (arith, first, last)

  below_each : (t : Treed) (p : AddressPrefix) (row : Interior) (proto : Proto) (other : Interior) → int_rows t p ≡ Some row → org_rows (branch_of proto t) p ≡ Some other → interior_distance row ≤ interior_distance other
  below_each t p row Connected other is at = below_low t p row other is (inl at)
  below_each t p row Static other is at = below_low t p row other is (inr at)
  below_each t p row Ospf other is at = below_dyn t p row other is (inl at)
  below_each t p row Rip other is at = below_dyn t p row other is (inr at)

  -- a row of `int` is one of these four
  some_proto : (t : Treed) (p : AddressPrefix) (row : Interior) → int_rows t p ≡ Some row → (proto : Proto) × (org_rows (branch_of proto t) p ≡ Some row)
  some_proto t p row is =
      elim (one interior_distance (low_rows t) (dyn_rows t) p) as (λ _. (proto : Proto) × (org_rows (branch_of proto t) p ≡ Some row)) [
        | inl low ↦ elim (one interior_distance (org_rows t.connected) (org_rows t.statics) p) as (λ _. (proto : Proto) × (org_rows (branch_of proto t) p ≡ Some row)) [
          | inl l ↦ (Connected, sym l ∙ sym low ∙ is)
          | inr r ↦ (Static, sym r ∙ sym low ∙ is)
        ]
        | inr dynamic ↦ elim (one interior_distance (org_rows t.ospf) (org_rows t.rip) p) as (λ _. (proto : Proto) × (org_rows (branch_of proto t) p ≡ Some row)) [
          | inl l ↦ (Ospf, sym l ∙ sym dynamic ∙ is)
          | inr r ↦ (Rip, sym r ∙ sym dynamic ∙ is)
        ]
      ]

  pub the_least_stands : RowsAreOwn → TheLeastDistanceStands
  the_least_stands own t p row tree is =
      let found = some_proto t p row is in
      let is_own : row.proto ≡ found.0 = own (branch_of found.0 t) p row (tree.each found.0) found.1 ∙ tree.placed found.0 in
      let P : Proto → Type 0 = λ k. org_rows (branch_of k t) p ≡ Some row in
      (subst P (sym is_own) found.1, λ proto other at. below_each t p row proto other is at)

  pub none_counts : EachRowCounts
  none_counts t p is Connected = (there interior_distance (org_rows t.connected) (org_rows t.statics) p (there interior_distance (low_rows t) (dyn_rows t) p is).0).0
  none_counts t p is Static = (there interior_distance (org_rows t.connected) (org_rows t.statics) p (there interior_distance (low_rows t) (dyn_rows t) p is).0).1
  none_counts t p is Ospf = (there interior_distance (org_rows t.ospf) (org_rows t.rip) p (there interior_distance (low_rows t) (dyn_rows t) p is).1).0
  none_counts t p is Rip = (there interior_distance (org_rows t.ospf) (org_rows t.rip) p (there interior_distance (low_rows t) (dyn_rows t) p is).1).1
