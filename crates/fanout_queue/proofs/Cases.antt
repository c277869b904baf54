-- Cases: of a test, of two numbers, of two prefixes.
use Rattle.std.proofs.Common.{◌≡◌, ◌≢◌, ℕ, Bool, true, false, Option, Some, IfSome, refl, sym, ap, ◌∙◌, subst}
use Rattle.std.specs.Ordering.{nat_cmp, eq_by_cmp, is_eq}
use Rattle.std.specs.declared.cmp.Ordering.{Ordering}
use Rattle.std.specs.declared.cmp.Ordering.TheVariants.{Less, Equal, Greater}
use Rattle.std.specs.Cmp.{nat_cmp_total, eq_by_cmp_equiv}
use Rattle.std.specs.FinMap.{nat_cmp-IsAntisymmetric}
use Rattle.addr4.specs.Prefixes.{AddressPrefix, prefix_cmp}
use Rattle.addr4.proofs.PrefixOrder.{itself, by_prefix}

pub by_bool : (b : Bool) (P : Bool → Type 0) → (b ≡ true → P true) → (b ≡ false → P false) → P b
by_bool b P on off = elim b as (λ v. b ≡ v → P v) [
  | true ↦ on
  | false ↦ off
] refl

pub same_number : (k : ℕ) → eq_by_cmp nat_cmp k k ≡ true
same_number k = (eq_by_cmp_equiv nat_cmp_total).refl k

tied : (o : Ordering) → is_eq o ≡ true → o ≡ Equal
tied Less e = cc
tied Equal e = refl
tied Greater e = cc

one_number : (q k : ℕ) → eq_by_cmp nat_cmp q k ≡ true → q ≡ k
one_number q k e = nat_cmp-IsAntisymmetric q k (tied (nat_cmp q k) e)

-- at the number, or at another
pub by_number : (q k : ℕ) (P : Bool → Type 0) → (q ≡ k → P true) → (q ≢ k → P false) → P (eq_by_cmp nat_cmp q k)
by_number q k P here apart = by_bool (eq_by_cmp nat_cmp q k) P
    (λ e. here (one_number q k e))
    (λ e. apart (λ same. let f : true ≡ false = sym (same_number k) ∙ sym (ap (λ n. eq_by_cmp nat_cmp n k) same) ∙ e in cc))

pub other_number : (q k : ℕ) → q ≢ k → eq_by_cmp nat_cmp q k ≡ false
other_number q k apart = by_number q k (λ b. b ≡ false) (λ e. absurd (apart e)) (λ _. refl)

pub other_prefix : (q p : AddressPrefix) → q ≢ p → eq_by_cmp prefix_cmp q p ≡ false
other_prefix q p apart = by_prefix q p (λ b. b ≡ false) (λ e. absurd (apart e)) (λ _. refl)

-- it doesn't matter which prefix is compared with which
pub either_way : (q p : AddressPrefix) → eq_by_cmp prefix_cmp q p ≡ eq_by_cmp prefix_cmp p q
either_way q p = by_prefix q p (λ b. b ≡ eq_by_cmp prefix_cmp p q)
    (λ e. sym (ap (λ k. eq_by_cmp prefix_cmp p k) e ∙ itself p))
    (λ apart. sym (other_prefix p q (λ e. apart (sym e))))

-- ---- of a value that may be there
module _ {A : Type 0} where
  pub if_some : (o : Option A) (P : A → Type 0) (x : A) → o ≡ Some x → P x → IfSome o P
  if_some o P x is h = subst (λ (v : Option A). IfSome v P) (sym is) h
