-- How many rows the tables have after turns, welds and losses.
use Rattle.std.proofs.Common.{◌≡◌, ℕ, ◌<◌, ◌+◌, ◌-◌, ◌==◌, ◌++◌, true, false, cond, not, zero, suc, List, [], ◌∷◌, Some, None, is_some, refl, sym, ap, ◌∙◌, arith}
use Rattle.std.specs.Prelude.{map, filter}
use Rattle.std.proofs.lemmas.Bool.Decides.{nat_tests}
use Rattle.std.specs.FinMap as tables
use Rattle.std.specs.FinMap.{FinMap, len-remove, len-empty, empty_of_len, get-empty}
use Rattle.addr4.specs.Prefixes.{AddressPrefix, prefix_cmp}
use Rattle.addr4.proofs.PrefixOrder.{prefixes_total}
use Rattle.link_change.specs.Rows.{is_empty_map}
use Rattle.loss_chain.specs.Lost.{Lost}
use Rattle.loss_chain.specs.Tables.{AreRising, lost_count, tables_count}
use Rattle.loss_chain.specs.Steps.{without, table_of, swept_one}
use Rattle.loss_chain.proofs.WholeLemmas.{rising_all}
use Rattle.loss_chain.proofs.WorkLemmas.{swept_above}
use Rattle.loss_chain.specs.Laws.{TurnsTakeRows, WeldsKeepRows, LossesKeepRows}

module _ {R : Type 0} where
  -- ---- a turn

  some_counted : (t : FinMap prefix_cmp R) (p : AddressPrefix) (row : R) (n : ℕ) → tables.len t ≡ n → tables.get t p ≡ Some row → 0 < n
  some_counted t p row zero counts at =
      let none : tables.get t p ≡ None = ap (λ (m : FinMap prefix_cmp R). tables.get m p) (empty_of_len t counts) ∙ get-empty prefix_cmp p in
      absurd (let clash : None ≡ Some row = sym none ∙ at in cc)
  some_counted t p row (suc n) counts at = omega arith

  pub one_less : (t : FinMap prefix_cmp R) (p : AddressPrefix) (row : R) → tables.get t p ≡ Some row → tables.len (tables.remove t p) + 1 ≡ tables.len t
  one_less t p row at =
      let e : tables.len (tables.remove t p) ≡ tables.len t - 1 = len-remove prefixes_total t p ∙ ap (λ o. cond (is_some o) (tables.len t - 1) (tables.len t)) at in
      let some = some_counted t p row (tables.len t) refl at in
      omega (arith, e, some)

  pub swept_rows : (n : ℕ) (p : AddressPrefix) (table : FinMap prefix_cmp R) (row : R) (ds : List (Lost R)) → AreRising ds → table_of n ds ≡ Some table → tables.get table p ≡ Some row → lost_count (map (swept_one n p) ds) + 1 ≡ lost_count ds
  swept_rows n p table row [] rising stands at = absurd (let clash : None ≡ Some table = stands in cc)
  swept_rows n p table row (d ∷ ds) rising stands at =
      elim (d.number == n) as (λ b. (d.number == n) ≡ b → cond b (Some d.rows) (table_of n ds) ≡ Some table → tables.len (cond b (without p d) d).rows + lost_count (map (swept_one n p) ds) + 1 ≡ lost_count (d ∷ ds)) [
        | true ↦ λ e here.
            let same : d.number ≡ n = grind (arith, nat_tests) in
            let rows : d.rows ≡ table = cc in
            let rest = ap lost_count (swept_above n p (d.number + 1) ds (omega (arith, same)) (rising_all d.number ds rising.0 rising.1)) in
            let less = one_less d.rows p row (ap (λ (t : FinMap prefix_cmp R). tables.get t p) rows ∙ at) in
            omega (arith, rest, less)
        | false ↦ λ e there.
            let rest = swept_rows n p table row ds rising.1 there at in
            omega (arith, rest)
      ] refl stands

  -- ---- welds and losses

  none_in : (t : FinMap prefix_cmp R) → is_empty_map t ≡ true → tables.len t ≡ 0
  none_in t empty = grind (arith, nat_tests)

  pub welded_rows : (ds : List (Lost R)) → lost_count (filter (λ d. not (is_empty_map d.rows)) ds) ≡ lost_count ds
  welded_rows [] = refl
  welded_rows (d ∷ ds) =
      let rest = welded_rows ds in
      let kept = filter (λ (x : Lost R). not (is_empty_map x.rows)) ds in
      elim (is_empty_map d.rows) as (λ b. is_empty_map d.rows ≡ b → lost_count (cond (not b) (d ∷ kept) kept) ≡ lost_count (d ∷ ds)) [
        | true ↦ λ empty. let none = none_in d.rows empty in omega (arith, rest, none)
        | false ↦ λ full. omega (arith, rest)
      ] refl

  appended : (ds : List (Lost R)) (d : Lost R) → lost_count (ds ++ d ∷ []) ≡ lost_count ds + tables.len d.rows
  appended [] d = omega arith
  appended (x ∷ ds) d = let rest = appended ds d in omega (arith, rest)

-- the law of turns
pub turn_takes_row : {R : Type 0} → TurnsTakeRows R
turn_takes_row t number p table row chain stands at =
    let swept = swept_rows number p table row t.deletions chain.rising stands at in
    omega (arith, swept)

pub weld_keeps_rows : {R : Type 0} → WeldsKeepRows R
weld_keeps_rows t = ap (λ n. tables.len t.live + n) (welded_rows t.deletions)

pub loss_keeps_rows : {R : Type 0} → LossesKeepRows R
loss_keeps_rows {R} number t =
    let new : Lost R = record { number = number; rows = t.live } in
    let no_rows_yet : FinMap prefix_cmp R = tables.empty in
    let none : tables.len no_rows_yet ≡ 0 = len-empty prefix_cmp R in
    elim (is_empty_map t.live) as (λ e. is_empty_map t.live ≡ e → tables.len no_rows_yet + lost_count (cond e t.deletions (t.deletions ++ new ∷ [])) ≡ tables_count t) [
      | true ↦ λ empty. let no_live = none_in t.live empty in omega (arith, none, no_live)
      | false ↦ λ full. let more = appended t.deletions new in omega (arith, none, more)
    ] refl
