-- What lost tables still have, and the stages that hold them.
use Rattle.std.proofs.Common.{◌≡◌, ℕ, ◌<◌, Bool, true, false, cond, nat_eq, List, [], ◌∷◌, map, Option, Some, is_some, refl, sym, ap, subst, ◌∙◌, arith}
use Rattle.std.specs.List.{AllByRecursion, Contains}
use Rattle.std.proofs.lemmas.List.Elements.{Contains-append_right}
use Rattle.std.specs.FinMap as tables
use Rattle.std.specs.FinMap.{FinMap}
use Rattle.addr4.specs.Prefixes.{AddressPrefix, prefix_cmp}
use Rattle.loss_chain.specs.Lost.{Lost}
use Rattle.loss_chain.specs.Covering.{row_over}
use Rattle.loss_chain.specs.Tables.{rows_below}
use Rattle.loss_chain.specs.Steps.{table_of}
use Rattle.loss_chain.specs.Held.{has_row, has_over}
use Rattle.loss_chain.specs.Laws.{LiveWhereNoneIsLost}
use Rattle.loss_chain.proofs.TableLemmas.{equal_by, no_table, none_later, table_here}

-- a table without the prefix leaves the row above
pub live_where_none_is_lost : {R : Type 0} → LiveWhereNoneIsLost R
live_where_none_is_lost live [] q rising none = refl
live_where_none_is_lost {R} live (d ∷ ds) q rising none =
    ap (λ (o : Option R). row_over o (rows_below live ds q)) (no_table (tables.get d.rows q) (sym (ap (λ (o : Option (FinMap prefix_cmp R)). has_row o q) (table_here d.number d ds refl)) ∙ none d.number))
    ∙ live_where_none_is_lost live ds q rising.1 (λ n. later n (nat_eq d.number n) refl (none n))
  where
    later : (n : ℕ) (b : Bool) → nat_eq d.number n ≡ b → has_row (cond (nat_eq d.number n) (Some d.rows) (table_of n ds)) q ≡ false → has_row (table_of n ds) q ≡ false
    later n true same held = ap (λ (o : Option (FinMap prefix_cmp R)). has_row o q) (none_later n ds (subst (λ (k : ℕ). AllByRecursion (λ (x : Lost R). k < x.number) ds) (equal_by d.number n same) rising.0))
    later n false apart held = sym (ap (λ (b : Bool). has_row (cond b (Some d.rows) (table_of n ds)) q) apart) ∙ held

module _ {R : Type 0} where
  pub no_stage_has : (t : Option (FinMap prefix_cmp R)) (q : AddressPrefix) → is_some t ≡ false → has_row t q ≡ false
  no_stage_has t q none = ap (λ (o : Option (FinMap prefix_cmp R)). has_row o q) (no_table t none)

  pub no_stage_has_over : (t : Option (FinMap prefix_cmp R)) (a : ℕ) → is_some t ≡ false → has_over t a ≡ false
  no_stage_has_over t a none = ap (λ (o : Option (FinMap prefix_cmp R)). has_over o a) (no_table t none)

  -- the stage of a table is among those of all tables
  pub stage_is_listed : {X : Type 0} (f : ℕ → X) (n : ℕ) (ds : List (Lost R)) → is_some (table_of n ds) ≡ true → Contains (map (λ (d : Lost R). f d.number) ds) (f n)
  stage_is_listed f n [] there = absurd (let clash : false ≡ true = there in cc)
  stage_is_listed {X} f n (d ∷ ds) there = by_test (nat_eq d.number n) refl there (stage_is_listed f n ds)
    where
      by_test : (b : Bool) → nat_eq d.number n ≡ b → is_some (cond b (Some d.rows) (table_of n ds)) ≡ true → (is_some (table_of n ds) ≡ true → Contains (map (λ (x : Lost R). f x.number) ds) (f n))
          → Contains (map (λ (x : Lost R). f x.number) (d ∷ ds)) (f n)
      by_test true same is later = (0, omega arith, ap f (equal_by d.number n same))
      by_test false apart is later = Contains-append_right (f d.number ∷ []) (map (λ (x : Lost R). f x.number) ds) (f n) (later is)
