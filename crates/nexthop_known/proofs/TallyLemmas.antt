-- The numbers that are kept of the rows, against the map that contracts see.
use Rattle.std.proofs.Common.{◌≡◌, ◌≢◌, ℕ, zero, suc, ◌+◌, true, false, not, cond, refl, sym, ap, ◌∙◌, Option, Some, None, is_some, arith}
use Rattle.std.specs.Option.{option_map}
use Rattle.std.specs.Ordering.{nat_cmp}
use Rattle.std.specs.Cmp.{nat_cmp_total}
use Rattle.std.specs.BTreeMap.{BTreeMap, is_at}
use Rattle.std.specs.BTreeMap as tree
use Rattle.std.specs.FinMap.{get, insert, from_entries, nat_cmp-IsAntisymmetric}
use Rattle.std.specs.FinMap as map
use Rattle.link_change.proofs.MapLemmas.{read_in, map_set, map_removed}
use Rattle.nexthop_known.specs.Counts.{Counts, counted, counted_in, is_one, one_more, one_less, one_less_of, PutsCount}

module _ (m n : BTreeMap ℕ ℕ) (now : Counts) (a : ℕ) (view : from_entries m.entries ≡ now) where
  pub here : (o : Option ℕ) → o ≡ tree.get nat_cmp m a → get now a ≡ o
  here o at = read_in nat_cmp_total m now a view ∙ sym at

  put_is : (x k : ℕ) → Some x ≡ tree.get nat_cmp m a → PutsCount m n a k → from_entries n.entries ≡ insert now a k
  put_is x k at puts = map_set nat_cmp_total nat_cmp-IsAntisymmetric m n now a k view (λ q.
      puts q ∙ ap (λ o. cond (is_at (nat_cmp a) q) (option_map (λ _. k) o) (tree.get nat_cmp m q)) (sym at))

  pub raised_is : (x k : ℕ) → Some x ≡ tree.get nat_cmp m a → k ≡ x + 1 → PutsCount m n a k → from_entries n.entries ≡ one_more now a
  raised_is x k at more puts =
      let c : counted now a ≡ suc x = ap counted_in (here (Some x) at) in
      let k_is : k ≡ counted now a = omega (arith, more, c) in
      put_is x k at puts ∙ ap (insert now a) k_is

  pub first_is : None ≡ tree.get nat_cmp m a → ((q : ℕ) → tree.get nat_cmp n q ≡ cond (is_at (nat_cmp a) q) (Some 0) (tree.get nat_cmp m q)) → from_entries n.entries ≡ one_more now a
  first_is at puts = map_set nat_cmp_total nat_cmp-IsAntisymmetric m n now a 0 view puts ∙ ap (λ o. insert now a (counted_in o)) (sym (here None at))

  pub not_first : (x : ℕ) → Some x ≡ tree.get nat_cmp m a → false ≡ not (map.contains_key now a)
  not_first x at = sym (ap (λ o. not (is_some o)) (here (Some x) at))

  pub is_first : None ≡ tree.get nat_cmp m a → true ≡ not (map.contains_key now a)
  is_first at = sym (ap (λ o. not (is_some o)) (here None at))

  pub nothing_less : None ≡ tree.get nat_cmp m a → now ≡ one_less now a
  nothing_less at = sym (ap (one_less_of now a) (here None at))

  pub last_less : Some 0 ≡ tree.get nat_cmp m a → ((q : ℕ) → tree.get nat_cmp n q ≡ cond (is_at (nat_cmp a) q) None (tree.get nat_cmp m q)) → from_entries n.entries ≡ one_less now a
  last_less at takes = map_removed nat_cmp_total nat_cmp-IsAntisymmetric m n now a view takes ∙ sym (ap (one_less_of now a) (here (Some 0) at))

  pub lowered_is : (x k : ℕ) → Some x ≡ tree.get nat_cmp m a → k + 1 ≡ x → PutsCount m n a k → from_entries n.entries ≡ one_less now a
  lowered_is x k at less puts =
      let x_is : x ≡ suc k = omega (arith, less) in
      put_is x k at puts ∙ sym (ap (one_less_of now a) (here (Some x) at ∙ ap Some x_is))

  pub one_told : (o : Option ℕ) → o ≡ tree.get nat_cmp m a → is_one o ≡ is_one (get now a)
  one_told o at = ap is_one (sym (here o at))

pub not_one : (n : ℕ) → n ≢ 0 → false ≡ is_one (Some n)
not_one zero ne = absurd (ne refl)
not_one (suc n) ne = refl
