-- Rows with one row set, the rows of a table, and where a walk goes.
use Rattle.std.proofs.Common.{ℕ, nat_eq, IsTrue, ◌↔◌, arith, ◌≡◌, Bool, true, false, cond, ◌||◌, Option, Some, None, refl, sym, ap, ◌∙◌}
use Rattle.std.proofs.lemmas.Bool.Decides.{nat_tests}
use Rattle.std.specs.FinMap as map
use Rattle.std.specs.FinMap.{FinMap, same_map, empty_of_len, len-empty, get-insert, get-remove, get-empty}
use Rattle.addr4.specs.Prefixes.{AddressPrefix, prefix_cmp}
use Rattle.addr4.proofs.PrefixOrder.{prefixes_total, exact_prefixes, by_prefix, itself}
use Rattle.link_change.specs.Rows.{Rows, no_rows, with_row}

-- functions that answer alike are one
pub same_function : {A B : Type 0} (f g : A → B) → ((x : A) → f x ≡ g x) → f ≡ g
same_function f g h = λ i. λ x. h x i

module _ {V : Type 0} where
  pub with_row_here : (rows : Rows V) (p : AddressPrefix) (row : Option V) → with_row rows p row p ≡ row
  with_row_here rows p row = ap (λ b. cond b row (rows p)) (itself p)

  -- to set the row that is there changes nothing
  pub with_row_same : (rows : Rows V) (p : AddressPrefix) (row : Option V) → rows p ≡ row → with_row rows p row ≡ rows
  with_row_same rows p row is = same_function _ _ (λ q.
      by_prefix q p (λ b. cond b row (rows q) ≡ rows q) (λ e. sym is ∙ ap rows (sym e)) (λ _. refl))

  pub rows_inserted : (m : FinMap prefix_cmp V) (p : AddressPrefix) (v : V) → map.get (map.insert m p v) ≡ with_row (map.get m) p (Some v)
  rows_inserted m p v = same_function _ _ (λ q. get-insert prefixes_total m p v q)

  pub rows_removed : (m : FinMap prefix_cmp V) (p : AddressPrefix) → map.get (map.remove m p) ≡ with_row (map.get m) p None
  rows_removed m p = same_function _ _ (λ q. get-remove prefixes_total m p q)

  pub empty_rows : map.get {R = prefix_cmp} (map.empty {X = V}) ≡ no_rows
  empty_rows = same_function _ _ (λ q. get-empty prefix_cmp q)

  -- to take out a row that isn't there changes nothing
  pub remove_absent : (m : FinMap prefix_cmp V) (p : AddressPrefix) → map.get m p ≡ None → map.remove m p ≡ m
  remove_absent m p none = same_map prefixes_total exact_prefixes _ _ (λ q. ap (λ (r : Rows V). r q) (rows_removed m p ∙ with_row_same (map.get m) p None none))

  -- a table whose rows count to none is the empty one
  pub counted_empty : (m : FinMap prefix_cmp V) (count : ℕ) → count ≡ map.len m → IsTrue (nat_eq count 0) ↔ (m ≡ map.empty)
  counted_empty m count counts = (
    λ is. empty_of_len m (let zero_len : map.len m ≡ 0 = grind (arith, nat_tests) in zero_len),
    λ e. let zero_len : count ≡ 0 = counts ∙ ap map.len e ∙ len-empty prefix_cmp V in grind (arith, nat_tests),
  )

  -- a table with no row anywhere is the empty one
  pub empty_of_rows : (m : FinMap prefix_cmp V) → ((q : AddressPrefix) → map.get m q ≡ None) → m ≡ map.empty
  empty_of_rows m none = same_map prefixes_total exact_prefixes _ _ (λ q. none q ∙ sym (get-empty prefix_cmp q))

pub not_first : (a b : Bool) → a || b ≡ false → a ≡ false
not_first true b h = h
not_first false b h = refl

pub not_second : (a b : Bool) → a || b ≡ false → b ≡ false
not_second true b h = absurd (let e : true ≡ false = h in cc)
not_second false b h = h
