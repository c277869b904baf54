-- Resolvers by number, where one was put.
use Rattle.std.proofs.Common.{◌≡◌, ℕ, Bool, true, false, cond, Some, None, is_some, nat_eq, refl, sym, ap, subst, ◌∙◌, arith}
use Rattle.std.proofs.lemmas.Bool.Decides.{nat_tests}
use Rattle.std.specs.Prelude.{IsSome}
use Rattle.std.specs.FinMap.{from_entries, get-insert, same_map, nat_cmp-IsAntisymmetric}
use Rattle.std.specs.BTreeMap as tree
use Rattle.std.specs.BTreeMap.{BTreeMap, WritesThrough}
use Rattle.std.specs.Cmp.{nat_cmp_total, unsigned_tied}
use Rattle.std.specs.Ordering.{nat_cmp}
use Rattle.std.proofs.lemmas.Option.{same_Some}
use Rattle.link_change.proofs.MapLemmas.{read_in, map_set}
use Rattle.nexthop_resolver.specs.declared.rows.Metric.{Metric}
use Rattle.nexthop_resolver.specs.Resolving.{Resolving}
pub use Rattle.nexthop_resolver.proofs.MoveLemmas.{by_bool}
use Rattle.hop_side.specs.Resolvers.{Resolvers, resolver_at, put_resolver}

pub equal_by : (m n : ℕ) → nat_eq m n ≡ true → m ≡ n
equal_by m n e = grind (arith, nat_tests)

pub same_by : (m n : ℕ) → m ≡ n → nat_eq m n ≡ true
same_by m n e = grind (arith, nat_tests)

pub differ_by : (m n : ℕ) → nat_eq m n ≡ false → m ≡ n → ⊥
differ_by m n e is = let clash : true ≡ false = sym (same_by m n is) ∙ e in cc

pub at_put : (k : ℕ) (s : Resolving Metric) (a : Resolvers) (j : ℕ) → resolver_at j (put_resolver k s a) ≡ cond (nat_eq j k) (Some s) (resolver_at j a)
at_put k s a j = get-insert nat_cmp_total a k s j ∙ ap (λ (b : Bool). cond b (Some s) (resolver_at j a)) (unsigned_tied j k)

pub put_here : (k : ℕ) (s : Resolving Metric) (a : Resolvers) → resolver_at k (put_resolver k s a) ≡ Some s
put_here k s a = at_put k s a k ∙ ap (λ (b : Bool). cond b (Some s) (resolver_at k a)) (same_by k k refl)

pub put_other : (k : ℕ) (s : Resolving Metric) (a : Resolvers) (j : ℕ) → nat_eq j k ≡ false → resolver_at j (put_resolver k s a) ≡ resolver_at j a
put_other k s a j other = at_put k s a j ∙ ap (λ (b : Bool). cond b (Some s) (resolver_at j a)) other

-- what holds of the one that was put and of every other
pub put_each : (P : ℕ → Resolving Metric → Type 0) (k : ℕ) (s : Resolving Metric) (a : Resolvers) → P k s
    → ((j : ℕ) (t : Resolving Metric) → nat_eq j k ≡ false → resolver_at j a ≡ Some t → P j t) → (j : ℕ) (t : Resolving Metric) → resolver_at j (put_resolver k s a) ≡ Some t → P j t
put_each P k s a own each j t at =
    by_bool (nat_eq j k) (λ b. cond b (Some s) (resolver_at j a) ≡ Some t → P j t)
    (λ e there. subst (λ (n : ℕ). P n t) (sym (equal_by j k e)) (subst (P k) (same_Some s t there) own)) (λ e there. each j t e there) (sym (at_put k s a j) ∙ at)

-- the same peers have one, where one takes another's place
pub put_peers : (k : ℕ) (s t : Resolving Metric) (a : Resolvers) → resolver_at k a ≡ Some t → (j : ℕ) → is_some (resolver_at j (put_resolver k s a)) ≡ is_some (resolver_at j a)
put_peers k s t a at j = ap is_some (at_put k s a j)
    ∙ by_bool (nat_eq j k) (λ b. is_some (cond b (Some s) (resolver_at j a)) ≡ is_some (resolver_at j a)) (λ e. ap is_some (sym at ∙ ap (λ (n : ℕ). resolver_at n a) (sym (equal_by j k e)))) (λ _. refl)

-- to put the resolver that is there changes nothing
pub put_same : (k : ℕ) (s : Resolving Metric) (a : Resolvers) → resolver_at k a ≡ Some s → put_resolver k s a ≡ a
put_same k s a at = same_map nat_cmp_total nat_cmp-IsAntisymmetric (put_resolver k s a) a (λ j.
    at_put k s a j ∙ by_bool (nat_eq j k) (λ b. cond b (Some s) (resolver_at j a) ≡ resolver_at j a) (λ e. sym at ∙ ap (λ (n : ℕ). resolver_at n a) (sym (equal_by j k e))) (λ _. refl))

-- ---- a resolver that is lent by the map that holds it
pub read_at : (m : BTreeMap ℕ (Resolving Metric)) (now : Resolvers) (k : ℕ) → from_entries m.entries ≡ now → tree.get nat_cmp m k ≡ resolver_at k now
read_at m now k view = sym (read_in nat_cmp_total m now k view)

pub lent_none : (m : BTreeMap ℕ (Resolving Metric)) (now : Resolvers) (k : ℕ) → from_entries m.entries ≡ now → None ≡ tree.get nat_cmp m k → IsSome (resolver_at k now) → ⊥
lent_none m now k view none some = let gone : resolver_at k now ≡ None = sym (none ∙ read_at m now k view) in cc

pub lent_put : (m n : BTreeMap ℕ (Resolving Metric)) (now : Resolvers) (k : ℕ) (s s' : Resolving Metric) → from_entries m.entries ≡ now → Some s ≡ tree.get nat_cmp m k → WritesThrough nat_cmp (nat_cmp k) m s' n
    → from_entries {R = nat_cmp} n.entries ≡ put_resolver k s' now
lent_put m n now k s s' view at written = let u = written.3 (ap is_some (sym at)) in map_set nat_cmp_total nat_cmp-IsAntisymmetric m n now k s' view u.0

-- and one that is new
set_put : (m n : BTreeMap ℕ (Resolving Metric)) (now : Resolvers) (k : ℕ) (s : Resolving Metric) → from_entries m.entries ≡ now → tree.Updates nat_cmp m n k (Some s) → from_entries {R = nat_cmp} n.entries ≡ put_resolver k s now
set_put m n now k s view updates = map_set nat_cmp_total nat_cmp-IsAntisymmetric m n now k s view updates.0

-- by a number that is the key
pub put_by_key : (m n : BTreeMap ℕ (Resolving Metric)) (now : Resolvers) (key k : ℕ) (s : Resolving Metric) → from_entries m.entries ≡ now → tree.Updates nat_cmp m n key (Some s) → key ≡ k
    → from_entries {R = nat_cmp} n.entries ≡ put_resolver k s now
put_by_key m n now key k s view updates is = set_put m n now key s view updates ∙ ap (λ (j : ℕ). put_resolver j s now) is
