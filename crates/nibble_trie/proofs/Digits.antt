-- Addresses by their digits, and places.
use Rattle.std.proofs.Common.{◌≡◌, ◌≢◌, ◌⊎◌, ℕ, ◌+◌, ◌*◌, ◌/◌, ◌%◌, ◌^◌, ◌<◌, ◌≤◌, Option, Some, None, true, cond, nat_eq, refl, sym, ap, ◌∙◌, inl, inr, arith, shr-shr, shr_lt, div-le_self}
use Rattle.std.proofs.lemmas.Bool.{cases_eq, cases_lt, ne_eqb}
use Rattle.std.proofs.lemmas.Bool.Decides.{nat_tests}
use Rattle.std.proofs.Math.Pow.{shr_mono}
use Rattle.nibble_trie.specs.Index.{high, with_head}

pub high_step : (level a : ℕ) → high (level + 1) a ≡ high level a / 16
high_step level a =
    let e : 4 * (level + 1) ≡ 4 * level + 4 = omega arith in
    ap (λ n. a / 2 ^ n) e ∙ sym (shr-shr a (4 * level) 4)

-- the digit behind those before
pub digit_is : (level block a : ℕ) → high (level + 1) a ≡ block → high level a ≡ block * 16 + high level a % 16
digit_is level block a e = omega (arith, high_step level a)

pub digits_before : (level block digit a : ℕ) → digit < 16 → high level a ≡ block * 16 + digit → high (level + 1) a ≡ block
digits_before level block digit a small e = omega (arith, high_step level a)

pub high_all : (a : ℕ) → a < 2 ^ 128 → high 32 a ≡ 0
high_all a fits = let lt : a / 2 ^ 128 < 1 = shr_lt {n = a} 0 128 fits in omega arith

pub zero_high : (level : ℕ) → high level 0 ≡ 0
zero_high level = omega (arith, div-le_self 0 (2 ^ (4 * level)))

pub high_mono : (level a b : ℕ) → a ≤ b → high level a ≤ high level b
high_mono level a b le = shr_mono (4 * level) le

pub high_less : (level a b : ℕ) → high level a < high level b → a < b
high_less level a b lt = elim (cases_lt a b) [
  | inl less ↦ less
  | inr le ↦ absurd (omega (arith, high_mono level b a le))
]

pub some_same : {A : Type 0} (x y : A) → Some x ≡ Some y → x ≡ y
some_same x y e = cc

-- two places are one or two
pub same_place : (x y : Option (ℕ × ℕ)) → (x ≡ y) ⊎ (x ≢ y)
same_place None None = inl refl
same_place None (Some y) = inr (λ e. absurd (cc))
same_place (Some x) None = inr (λ e. absurd (cc))
same_place (Some x) (Some y) = elim (cases_eq x.0 y.0) [
  | inl a ↦ elim (cases_eq x.1 y.1) [
    | inl b ↦ inl (λ i. Some (a i, b i))
    | inr n ↦ inr (λ e. n (ap (λ p. p.1) (some_same x y e)))
  ]
  | inr n ↦ inr (λ e. n (ap (λ p. p.0) (some_same x y e)))
]

pub same_number : (a : ℕ) → nat_eq a a ≡ true
same_number a = grind (arith, nat_tests)

pub head_here : (heads : ℕ → Option ℕ) (a : ℕ) (head : Option ℕ) → with_head heads a head a ≡ head
head_here heads a head = ap (λ t. cond t head (heads a)) (same_number a)

pub head_apart : (heads : ℕ → Option ℕ) (a : ℕ) (head : Option ℕ) (b : ℕ) → b ≢ a → with_head heads a head b ≡ heads b
head_apart heads a head b n = ap (λ t. cond t head (heads b)) (ne_eqb b a n)
