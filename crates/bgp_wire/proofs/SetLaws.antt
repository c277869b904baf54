-- Prefixes as a set.
use Rattle.std.proofs.Common.{◌≡◌, ◌≢◌, ℕ, ◌<◌, ◌||◌, Bool, true, false, cond, List, [], ◌∷◌, refl, sym, ap, subst, ◌∙◌, arith}
use Rattle.std.specs.List.{list_any}
use Rattle.std.specs.Ordering.{eq_by_cmp}
use Rattle.std.specs.BTreeSet.{BTreeSet, contains, IsFromIterResult}
use Rattle.std.proofs.lemmas.Bool.Decides.{nat_tests}
use Rattle.addr4.specs.Prefixes.{AddressPrefix, prefix_cmp, same_prefix}
use Rattle.addr4.proofs.PrefixOrder.{by_prefix}

same_itself : (p : AddressPrefix) → same_prefix p p ≡ true
same_itself p = grind (arith, nat_tests)

same_is : (p q : AddressPrefix) → same_prefix p q ≡ true → q ≡ p
same_is p q e =
    let a : q.address ≡ p.address = grind (arith, nat_tests) in
    let l : q.length ≡ p.length = grind (arith, nat_tests) in
    by_parts q.address p.address q.length p.length a l
  where
    by_parts : (a b l m : ℕ) → a ≡ b → l ≡ m → ◌≡◌ {A = AddressPrefix} (record { address = a; length = l }) (record { address = b; length = m })
    by_parts a b l m e f = cc

same_test : (q p : AddressPrefix) → eq_by_cmp prefix_cmp q p ≡ same_prefix p q
same_test q p = by_prefix q p (λ b. b ≡ same_prefix p q) (λ same. subst (λ x. true ≡ same_prefix p x) (sym same) (sym (same_itself p))) (λ apart. other (same_prefix p q) refl apart)
  where
    other : (b : Bool) → same_prefix p q ≡ b → q ≢ p → false ≡ same_prefix p q
    other true e apart = absurd (apart (same_is p q e))
    other false e apart = sym e

pub member_same : (others : List AddressPrefix) (q : AddressPrefix) → list_any (eq_by_cmp prefix_cmp q) others ≡ list_any (λ other. same_prefix other q) others
member_same [] q = refl
member_same (p ∷ ps) q = ap (λ b. b || list_any (eq_by_cmp prefix_cmp q) ps) (same_test q p) ∙ ap (λ b. same_prefix p q || b) (member_same ps q)

-- what the set has is what the list has
pub set_has : (others : List AddressPrefix) (s : BTreeSet AddressPrefix) (q : AddressPrefix) → IsFromIterResult prefix_cmp others s → contains prefix_cmp s q ≡ list_any (λ other. same_prefix other q) others
set_has others s q is = is.0 q ∙ member_same others q
