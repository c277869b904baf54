-- Tests that tell something.
use Rattle.std.proofs.Common.{◌≡◌, ℕ, zero, suc, ◌<◌, Bool, true, false, eqb, not, ◌||◌, ◌&&◌, refl, arith}
use Rattle.std.proofs.lemmas.Bool.{eqb-true, eq-eqb}

pub not_both : (b : Bool) → b ≡ true → b ≡ false → ⊥
not_both true e f = absurd (cc)
not_both false e f = absurd (cc)

pub or_false_left : (a b : Bool) → (a || b) ≡ false → a ≡ false
or_false_left true b e = absurd (cc)
or_false_left false b e = refl

pub or_false_right : (a b : Bool) → (a || b) ≡ false → b ≡ false
or_false_right true b e = absurd (cc)
or_false_right false b e = e

pub not_false : (b : Bool) → not b ≡ false → b ≡ true
not_false true e = refl
not_false false e = absurd (cc)

pub not_true : (b : Bool) → not b ≡ true → b ≡ false
not_true true e = absurd (cc)
not_true false e = refl

-- whatever stands before
pub or_true : (b : Bool) → (b || true) ≡ true
or_true true = refl
or_true false = refl

pub and_true : (b : Bool) → (b && true) ≡ false → b ≡ false
and_true true e = e
and_true false e = refl

pub and_left : (a b : Bool) → (a && b) ≡ true → a ≡ true
and_left true b e = refl
and_left false b e = absurd (cc)

pub and_right : (a b : Bool) → (a && b) ≡ true → b ≡ true
and_right true b e = e
and_right false b e = absurd (cc)

pub unequal : (n m : ℕ) → (n ≡ m → ⊥) → eqb n m ≡ false
unequal n m differ = elim (eqb n m) as (λ b. eqb n m ≡ b → b ≡ false) [ true ↦ λ e. absurd (differ (eqb-true n m e)) | false ↦ λ e. refl ] refl

pub not_zero : (n : ℕ) → 0 < n → eqb n 0 ≡ false
not_zero n lt = unequal n 0 (λ e. absurd (omega arith))

pub nonzero : (n : ℕ) → eqb n 0 ≡ false → 0 < n
nonzero zero e = let t : eqb 0 0 ≡ true = eq-eqb 0 0 refl in absurd (cc)
nonzero (suc n) e = omega arith
