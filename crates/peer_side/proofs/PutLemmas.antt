-- Peers' chains by number, where one was put.
use Rattle.std.proofs.Common.{◌≡◌, ℕ, ◌+◌, ◌<◌, ◌==◌, Bool, true, false, cond, nat_lt, List, [], ◌∷◌, length, arith, Option, Some, None, is_some, nat_eq, refl, sym, ap, subst, ◌∙◌}
use Rattle.std.specs.FinMap as tables
use Rattle.std.specs.FinMap.{from_entries, get-empty, get-insert, len-insert, same_map, nat_cmp-IsAntisymmetric}
use Rattle.std.specs.BTreeMap as tree
use Rattle.std.specs.BTreeMap.{BTreeMap, WritesThrough}
use Rattle.std.specs.Prelude.{IsSome}
use Rattle.std.specs.Cmp.{nat_cmp_total, unsigned_tied}
use Rattle.std.specs.Ordering.{nat_cmp, is_lt}
use Rattle.std.specs.declared.cmp.Ordering.TheVariants.{Less, Equal, Greater}
use Rattle.std.proofs.lemmas.Bool.Decides.{nat_tests}
use Rattle.std.proofs.lemmas.Option.{same_Some}
use Rattle.link_change.proofs.MapLemmas.{read_in, map_set, sum_replaced}
use Rattle.link_region.proofs.RegionLemmas.{by_bool}
use Rattle.loss_chain.proofs.TableLemmas.{equal_by, same_by}
use Rattle.in_chain.specs.Chains.{Chained, turns_left}
use Rattle.peer_side.specs.Peers.{Chains, chain_at, put_chain, lost_of, lost_in, left_in}

pub at_put : (k : ℕ) (c : Chained) (a : Chains) (j : ℕ) → chain_at j (put_chain k c a) ≡ cond (nat_eq j k) (Some c) (chain_at j a)
at_put k c a j = get-insert nat_cmp_total a k c j ∙ ap (λ (b : Bool). cond b (Some c) (chain_at j a)) (unsigned_tied j k)

pub put_here : (k : ℕ) (c : Chained) (a : Chains) → chain_at k (put_chain k c a) ≡ Some c
put_here k c a = at_put k c a k ∙ ap (λ (b : Bool). cond b (Some c) (chain_at k a)) (same_by k k refl)

pub put_other : (k : ℕ) (c : Chained) (a : Chains) (j : ℕ) → nat_eq j k ≡ false → chain_at j (put_chain k c a) ≡ chain_at j a
put_other k c a j other = at_put k c a j ∙ ap (λ (b : Bool). cond b (Some c) (chain_at j a)) other

-- what is seen of each chain
pub put_seen : {A : Type 0} (f : Option Chained → A) (k : ℕ) (c : Chained) (a : Chains) (j : ℕ) → f (chain_at j (put_chain k c a)) ≡ cond (nat_eq j k) (f (Some c)) (f (chain_at j a))
put_seen f k c a j = ap f (at_put k c a j) ∙ elim (nat_eq j k) as (λ b. f (cond b (Some c) (chain_at j a)) ≡ cond b (f (Some c)) (f (chain_at j a))) [ true ↦ refl | false ↦ refl ]

-- where the chain that was put is seen as what stood there, all are
pub put_kept : {A : Type 0} (f : Option Chained → A) (k : ℕ) (c : Chained) (a : Chains) → f (Some c) ≡ f (chain_at k a) → (j : ℕ) → f (chain_at j (put_chain k c a)) ≡ f (chain_at j a)
put_kept f k c a same j = put_seen f k c a j ∙ by_bool (nat_eq j k) (λ b. cond b (f (Some c)) (f (chain_at j a)) ≡ f (chain_at j a)) (λ e. same ∙ ap (λ (n : ℕ). f (chain_at n a)) (sym (equal_by j k e))) (λ _. refl)

-- what holds of each other chain and of the one that was put
pub put_beside : (P : ℕ → Chained → Type 0) (k : ℕ) (c : Chained) (a : Chains) → P k c → ((j : ℕ) (d : Chained) → nat_eq j k ≡ false → chain_at j a ≡ Some d → P j d) → (j : ℕ) (d : Chained) → chain_at j (put_chain k c a) ≡ Some d → P j d
put_beside P k c a own each j d at =
    by_bool (nat_eq j k) (λ b. cond b (Some c) (chain_at j a) ≡ Some d → P j d)
    (λ e there. subst (λ (n : ℕ). P n d) (sym (equal_by j k e)) (subst (P k) (same_Some c d there) own)) (λ e there. each j d e there) (sym (at_put k c a j) ∙ at)

-- what holds of each chain and of the one that was put
pub put_each : (P : ℕ → Chained → Type 0) (k : ℕ) (c : Chained) (a : Chains) → P k c → ((j : ℕ) (d : Chained) → chain_at j a ≡ Some d → P j d) → (j : ℕ) (d : Chained) → chain_at j (put_chain k c a) ≡ Some d → P j d
put_each P k c a own each = put_beside P k c a own (λ j d _ at. each j d at)

is_there : (k : ℕ) (a : Chains) (c : Chained) → chain_at k a ≡ Some c → tables.contains_key a k ≡ true
is_there k a c at = ap is_some at

-- as many peers, and one more where it is new
pub put_size : (k : ℕ) (c c' : Chained) (a : Chains) → chain_at k a ≡ Some c → tables.len (put_chain k c' a) ≡ tables.len a
put_size k c c' a at = len-insert nat_cmp_total a k c' ∙ ap (λ (b : Bool). cond b (tables.len a) (tables.len a + 1)) (is_there k a c at)

pub put_more : (k : ℕ) (c : Chained) (a : Chains) → chain_at k a ≡ None → tables.len (put_chain k c a) ≡ tables.len a + 1
put_more k c a none = len-insert nat_cmp_total a k c ∙ ap (λ (o : Option Chained). cond (is_some o) (tables.len a) (tables.len a + 1)) none

-- how many rows are lost, and how many turns of walks are left
pub put_lost : (k : ℕ) (c c' : Chained) (a : Chains) → chain_at k a ≡ Some c → lost_in (put_chain k c' a) + lost_of c ≡ lost_in a + lost_of c'
put_lost k c c' a at = sum_replaced nat_cmp_total lost_of a k c' c at

pub put_left : (k : ℕ) (c c' : Chained) (a : Chains) → chain_at k a ≡ Some c → left_in (put_chain k c' a) + turns_left c ≡ left_in a + turns_left c'
put_left k c c' a at = sum_replaced nat_cmp_total turns_left a k c' c at

-- to put the chain that is there changes nothing
pub put_same : (k : ℕ) (c : Chained) (a : Chains) → chain_at k a ≡ Some c → put_chain k c a ≡ a
put_same k c a at = same_map nat_cmp_total nat_cmp-IsAntisymmetric (put_chain k c a) a (λ j. put_kept (λ (o : Option Chained). o) k c a (sym at) j)

-- to put a chain twice
pub put_twice : (k : ℕ) (c c' : Chained) (a : Chains) → put_chain k c' (put_chain k c a) ≡ put_chain k c' a
put_twice k c c' a = same_map nat_cmp_total nat_cmp-IsAntisymmetric _ _ (λ j. at_put k c' (put_chain k c a) j ∙ ap (cond (nat_eq j k) (Some c')) (at_put k c a j) ∙ by_test (nat_eq j k) (chain_at j a) ∙ sym (at_put k c' a j))
  where
    by_test : (b : Bool) (o : Option Chained) → cond b (Some c') (cond b (Some c) o) ≡ cond b (Some c') o
    by_test true o = refl
    by_test false o = refl

-- ---- a chain that is lent by the map that holds it
pub read_at : (m : BTreeMap ℕ Chained) (now : Chains) (k : ℕ) → from_entries m.entries ≡ now → tree.get nat_cmp m k ≡ chain_at k now
read_at m now k view = sym (read_in nat_cmp_total m now k view)

pub lent_none : (m : BTreeMap ℕ Chained) (now : Chains) (k : ℕ) → from_entries m.entries ≡ now → None ≡ tree.get nat_cmp m k → IsSome (chain_at k now) → ⊥
lent_none m now k view none some = let gone : chain_at k now ≡ None = sym (none ∙ read_at m now k view) in cc

pub lent_put : (m n : BTreeMap ℕ Chained) (now : Chains) (k : ℕ) (c c' : Chained) → from_entries m.entries ≡ now → Some c ≡ tree.get nat_cmp m k → WritesThrough nat_cmp (nat_cmp k) m c' n → from_entries {R = nat_cmp} n.entries ≡ put_chain k c' now
lent_put m n now k c c' view at written = map_set nat_cmp_total nat_cmp-IsAntisymmetric m n now k c' view (written.3 (ap is_some (sym at))).0

-- and one that is new
pub set_put : (m n : BTreeMap ℕ Chained) (now : Chains) (k : ℕ) (c : Chained) → from_entries m.entries ≡ now → tree.Updates nat_cmp m n k (Some c) → from_entries {R = nat_cmp} n.entries ≡ put_chain k c now
set_put m n now k c view updates = map_set nat_cmp_total nat_cmp-IsAntisymmetric m n now k c view updates.0

-- no peer is beyond the greatest number, and none where there are no entries
pub none_beyond : (m : BTreeMap ℕ Chained) (now : Chains) (last k : ℕ) → from_entries m.entries ≡ now → tree.IsUpperBound nat_cmp m last → last < k → chain_at k now ≡ None
none_beyond m now last k view bound high = by_some (tree.get nat_cmp m k) refl
  where
    low : nat_lt last k ≡ true
    low = grind (arith, nat_tests, high)

    is_less : is_lt (nat_cmp last k) ≡ true
    is_less = ap (λ (b : Bool). is_lt (cond b Less (cond (last == k) Equal Greater))) low

    by_some : (o : Option Chained) → tree.get nat_cmp m k ≡ o → chain_at k now ≡ None
    by_some None e = sym (read_at m now k view) ∙ e
    by_some (Some c) e = absurd (let never : is_lt (nat_cmp last k) ≡ false = bound k (ap is_some e) in let clash : true ≡ false = sym is_less ∙ never in cc)

pub none_in_empty : (m : BTreeMap ℕ Chained) (now : Chains) (k : ℕ) → from_entries m.entries ≡ now → (0 < tree.btree_map_len m → ⊥) → chain_at k now ≡ None
none_in_empty m now k view none = by_entries m.entries view none
  where
    by_entries : (es : List (ℕ × Chained)) → from_entries {R = nat_cmp} es ≡ now → (0 < length es → ⊥) → chain_at k now ≡ None
    by_entries [] is none = ap (chain_at k) (sym is) ∙ get-empty nat_cmp k
    by_entries (e ∷ es) is none = absurd (none (omega arith))
