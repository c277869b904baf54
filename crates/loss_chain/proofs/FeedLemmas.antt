-- Only a feed brings a row, so that what holds of each row that is fed holds of all; and the same of the numbers of losses.
use Rattle.std.proofs.Common.{◌≡◌, ◌⊎◌, ℕ, ◌==◌, ◌++◌, Bool, true, false, cond, not, List, [], ◌∷◌, Option, Some, None, IfSome, refl, sym, ap, subst, ◌∙◌, inl, inr}
use Rattle.std.specs.Prelude.{map, filter}
use Rattle.std.specs.List.{AllByRecursion}
use Rattle.std.specs.FinMap as tables
use Rattle.std.specs.FinMap.{FinMap, get-empty}
use Rattle.addr4.specs.Prefixes.{AddressPrefix, prefix_cmp}
use Rattle.addr4.proofs.PrefixOrder.{by_prefix}
use Rattle.link_change.specs.Rows.{Rows, is_empty_map}
use Rattle.link_change.proofs.RowLemmas.{rows_inserted, rows_removed}
use Rattle.loss_chain.specs.Lost.{Lost}
use Rattle.loss_chain.specs.Covering.{row_over}
use Rattle.loss_chain.specs.Tables.{Tables, rows_below, lowest_rows}
use Rattle.loss_chain.specs.Rows.{IsLostRow, IsRow, AllRows}
use Rattle.loss_chain.specs.Steps.{no_tables, live_after, without, deletions_after, fed_tables, lost_tables, welded_tables, swept_one, swept_tables}
use Rattle.loss_chain.proofs.ListLemmas.{all_mapped}
use Rattle.loss_chain.specs.Laws.{NoRowAtFirst, FeedsBringOneRow, LossesBringNoRow, WeldsBringNoRow, TurnsBringNoRow, LowestRowsAreRows}

module _ {R : Type 0} where
  -- ---- tables

  removed : (t : FinMap prefix_cmp R) (at p : AddressPrefix) (row : R) → tables.get (tables.remove t at) p ≡ Some row → tables.get t p ≡ Some row
  removed t at p row is =
      by_prefix p at (λ b. cond b None (tables.get t p) ≡ Some row → tables.get t p ≡ Some row) (λ _ none. absurd (cc)) (λ _ there. there)
      (ap (λ (rows : Rows R). rows p) (sym (rows_removed t at)) ∙ is)

  set : (live : FinMap prefix_cmp R) (at : AddressPrefix) (new : Option R) (p : AddressPrefix) (row : R) → tables.get (live_after live at new) p ≡ Some row → (tables.get live p ≡ Some row) ⊎ ((p ≡ at) × (new ≡ Some row))
  set live at None p row is = inl (removed live at p row is)
  set live at (Some a) p row is =
      by_prefix p at (λ b. cond b (Some a) (tables.get live p) ≡ Some row → (tables.get live p ≡ Some row) ⊎ ((p ≡ at) × (Some a ≡ Some row))) (λ same here. inr (same, here)) (λ _ there. inl there)
      (ap (λ (rows : Rows R). rows p) (sym (rows_inserted live at a)) ∙ is)

  -- ---- lists of lost tables

  lost_mapped : (f : Lost R → Lost R) → ((d : Lost R) (p : AddressPrefix) (row : R) → tables.get (f d).rows p ≡ Some row → tables.get d.rows p ≡ Some row)
      → (ds : List (Lost R)) (p : AddressPrefix) (row : R) → IsLostRow (map f ds) p row → IsLostRow ds p row
  lost_mapped f keeps [] p row is = is
  lost_mapped f keeps (d ∷ ds) p row (inl here) = inl (keeps d p row here)
  lost_mapped f keeps (d ∷ ds) p row (inr above) = inr (lost_mapped f keeps ds p row above)

  lost_filtered : (test : Lost R → Bool) (ds : List (Lost R)) (p : AddressPrefix) (row : R) → IsLostRow (filter test ds) p row → IsLostRow ds p row
  lost_filtered test [] p row is = is
  lost_filtered test (d ∷ ds) p row is =
      elim (test d) as (λ b. IsLostRow (cond b (d ∷ filter test ds) (filter test ds)) p row → IsLostRow (d ∷ ds) p row) [
        | true ↦ λ some. elim some as (λ _. IsLostRow (d ∷ ds) p row) [ inl here ↦ inl here | inr above ↦ inr (lost_filtered test ds p row above) ]
        | false ↦ λ above. inr (lost_filtered test ds p row above)
      ] is

  lost_appended : (ds : List (Lost R)) (last : Lost R) (p : AddressPrefix) (row : R) → IsLostRow (ds ++ last ∷ []) p row → (tables.get last.rows p ≡ Some row) ⊎ IsLostRow ds p row
  lost_appended [] last p row is = is
  lost_appended (d ∷ ds) last p row (inl here) = inr (inl here)
  lost_appended (d ∷ ds) last p row (inr above) =
      elim (lost_appended ds last p row above) as (λ _. (tables.get last.rows p ≡ Some row) ⊎ IsLostRow (d ∷ ds) p row) [ inl here ↦ inl here | inr rest ↦ inr (inr rest) ]

  lost_fed : (ds : List (Lost R)) (at : AddressPrefix) (new : Option R) (p : AddressPrefix) (row : R) → IsLostRow (deletions_after ds at new) p row → IsLostRow ds p row
  lost_fed ds at None p row is = is
  lost_fed ds at (Some a) p row is = lost_mapped (without at) (λ d q r h. removed d.rows at q r h) ds p row is

  swept_row : (number : ℕ) (at : AddressPrefix) (d : Lost R) (p : AddressPrefix) (row : R) → tables.get (swept_one number at d).rows p ≡ Some row → tables.get d.rows p ≡ Some row
  swept_row number at d p row is =
      elim (d.number == number) as (λ b. tables.get (cond b (without at d) d).rows p ≡ Some row → tables.get d.rows p ≡ Some row) [ true ↦ λ h. removed d.rows at p row h | false ↦ λ h. h ] is

  below_row : (live : FinMap prefix_cmp R) (ds : List (Lost R)) (p : AddressPrefix) (row : R) → rows_below live ds p ≡ Some row → (tables.get live p ≡ Some row) ⊎ IsLostRow ds p row
  below_row live [] p row is = inl is
  below_row live (d ∷ ds) p row is =
      elim (tables.get d.rows p) as (λ o. tables.get d.rows p ≡ o → row_over o (rows_below live ds p) ≡ Some row → (tables.get live p ≡ Some row) ⊎ IsLostRow (d ∷ ds) p row) [
        | None ↦ λ _ above. elim (below_row live ds p row above) as (λ _. (tables.get live p ≡ Some row) ⊎ IsLostRow (d ∷ ds) p row) [ inl l ↦ inl l | inr l ↦ inr (inr l) ]
        | Some v ↦ λ e here. inr (inl (e ∙ here))
      ] refl is

-- ---- the laws

pub no_row_at_first : {R : Type 0} → NoRowAtFirst R
no_row_at_first {R} p row (inl live) = let none = get-empty {X = R} prefix_cmp p in let clash : None ≡ Some row = sym none ∙ live in cc
no_row_at_first p row (inr lost) = lost

pub feeds_bring_one_row : {R : Type 0} → FeedsBringOneRow R
feeds_bring_one_row t at new p row (inl live) =
    elim (set t.live at new p row live) as (λ _. IsRow t p row ⊎ ((p ≡ at) × (new ≡ Some row))) [ inl old ↦ inl (inl old) | inr fed ↦ inr fed ]
feeds_bring_one_row t at new p row (inr lost) = inl (inr (lost_fed t.deletions at new p row lost))

pub losses_bring_no_row : {R : Type 0} → LossesBringNoRow R
losses_bring_no_row number t p row (inl live) = absurd (no_row_at_first p row (inl live))
losses_bring_no_row number t p row (inr lost) =
    elim (is_empty_map t.live) as (λ e. IsLostRow (cond e t.deletions (t.deletions ++ record { number = number; rows = t.live } ∷ [])) p row → IsRow t p row) [
      | true ↦ λ old. inr old
      | false ↦ λ more. lost_appended t.deletions (record { number = number; rows = t.live }) p row more
    ] lost

pub welds_bring_no_row : {R : Type 0} → WeldsBringNoRow R
welds_bring_no_row t p row (inl live) = inl live
welds_bring_no_row t p row (inr lost) = inr (lost_filtered (λ d. not (is_empty_map d.rows)) t.deletions p row lost)

pub turns_bring_no_row : {R : Type 0} → TurnsBringNoRow R
turns_bring_no_row number at t p row (inl live) = inl live
turns_bring_no_row number at t p row (inr lost) = inr (lost_mapped (swept_one number at) (swept_row number at) t.deletions p row lost)

pub lowest_rows_are_rows : {R : Type 0} → LowestRowsAreRows R
lowest_rows_are_rows t p row is = below_row t.live t.deletions p row is

-- ---- what holds of all rows

module _ {R : Type 0} (P : R → Type 0) where
  pub all_at_first : AllRows P no_tables
  all_at_first p row is = absurd (no_row_at_first p row is)

  pub all_fed : (t : Tables R) (at : AddressPrefix) (new : Option R) → AllRows P t → IfSome new P → AllRows P (fed_tables t at new)
  all_fed t at new all fed p row is =
      elim (feeds_bring_one_row t at new p row is) as (λ _. P row) [ inl old ↦ all p row old | inr here ↦ subst (λ (o : Option R). IfSome o P) here.1 fed ]

  pub all_lost : (number : ℕ) (t : Tables R) → AllRows P t → AllRows P (lost_tables number t)
  all_lost number t all p row is = all p row (losses_bring_no_row number t p row is)

  pub all_welded : (t : Tables R) → AllRows P t → AllRows P (welded_tables t)
  all_welded t all p row is = all p row (welds_bring_no_row t p row is)

  pub all_swept : (number : ℕ) (at : AddressPrefix) (t : Tables R) → AllRows P t → AllRows P (swept_tables number at t)
  all_swept number at t all p row is = all p row (turns_bring_no_row number at t p row is)

  pub all_lowest : (t : Tables R) (p : AddressPrefix) (row : R) → AllRows P t → lowest_rows t p ≡ Some row → P row
  all_lowest t p row all is = all p row (lowest_rows_are_rows t p row is)

-- ---- what holds of the numbers of all losses

module _ {R : Type 0} (P : ℕ → Type 0) where
  abbrev Numbers : List (Lost R) → Type 0
  Numbers ds = AllByRecursion (λ d. P d.number) ds

  pub numbers_fed : (ds : List (Lost R)) (at : AddressPrefix) (new : Option R) → Numbers ds → Numbers (deletions_after ds at new)
  numbers_fed ds at None all = all
  numbers_fed ds at (Some a) all = all_mapped (λ (d : Lost R). P d.number) (without at) (λ d h. h) ds all

  pub numbers_swept : (number : ℕ) (at : AddressPrefix) (ds : List (Lost R)) → Numbers ds → Numbers (map (swept_one number at) ds)
  numbers_swept number at ds all =
      all_mapped (λ (d : Lost R). P d.number) (swept_one number at) (λ d h. elim (d.number == number) as (λ b. P (cond b (without at d) d).number) [ true ↦ h | false ↦ h ]) ds all
