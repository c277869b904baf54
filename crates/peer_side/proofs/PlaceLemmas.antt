-- A list is gone through by place.
use Rattle.std.proofs.Common.{◌≡◌, ℕ, zero, suc, ◌+◌, Bool, true, false, cond, List, [], ◌∷◌, map, drop, Some, None, refl, sym, ap, ◌∙◌, arith}
use Rattle.std.specs.Prelude.{option_map, slice_get}
use Rattle.std.specs.List.{find}

module _ {A B : Type 0} (f : A → B) (W : B → Bool) where
  -- where no element before a place is such a one, the first is looked for from there
  pub from_place : (xs : List A) (n : ℕ) (y : B) → option_map f (slice_get xs n) ≡ Some y → find W (map f (drop n xs)) ≡ cond (W y) (Some y) (find W (map f (drop (suc n) xs)))
  from_place [] n y e = absurd (cc)
  from_place (x ∷ xs) zero y e = (let is : f x ≡ y = cc in ap (λ (z : B). cond (W z) (Some z) (find W (map f xs))) is)
  from_place (x ∷ xs) (suc n) y e = from_place xs n y e

  pub behind_all : (xs : List A) (n : ℕ) → option_map f (slice_get xs n) ≡ None → find W (map f (drop n xs)) ≡ None
  behind_all [] zero e = refl
  behind_all [] (suc n) e = refl
  behind_all (x ∷ xs) zero e = absurd (cc)
  behind_all (x ∷ xs) (suc n) e = behind_all xs n e

  pub such : (xs : List A) (n : ℕ) (y : B) → find W (map f (drop n xs)) ≡ find W (map f xs) → option_map f (slice_get xs n) ≡ Some y → W y ≡ true → Some y ≡ find W (map f xs)
  such xs n y so at is = sym (sym so ∙ from_place xs n y at ∙ ap (λ (b : Bool). cond b (Some y) (find W (map f (drop (suc n) xs)))) is)

  pub passed : (xs : List A) (n : ℕ) (y : B) → find W (map f (drop n xs)) ≡ find W (map f xs) → option_map f (slice_get xs n) ≡ Some y → W y ≡ false → find W (map f (drop (suc n) xs)) ≡ find W (map f xs)
  passed xs n y so at not = sym (ap (λ (b : Bool). cond b (Some y) (find W (map f (drop (suc n) xs)))) not) ∙ sym (from_place xs n y at) ∙ so

  pub passed_by_one : (xs : List A) (n : ℕ) (y : B) → find W (map f (drop n xs)) ≡ find W (map f xs) → option_map f (slice_get xs n) ≡ Some y → W y ≡ false → find W (map f (drop (n + 1) xs)) ≡ find W (map f xs)
  passed_by_one xs n y so at not = (let next : n + 1 ≡ suc n = omega arith in ap (λ (m : ℕ). find W (map f (drop m xs))) next ∙ passed xs n y so at not)
