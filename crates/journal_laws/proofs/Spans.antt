-- Texts that are equal, and where each is parted.
use Rattle.std.proofs.Common.{◌≡◌, ℕ, Bool, true, false, List, [], ◌∷◌, ◌++◌, Option, Some, None, refl, sym, ap, ◌∙◌}
use Rattle.std.specs.List.{AllByRecursion}

-- whether the first byte passes the test
abbrev pub begins : (ℕ → Bool) → List ℕ → Bool
begins test [] = false
begins test (c ∷ cs) = test c

-- each byte passes the test
abbrev pub Pass : (ℕ → Bool) → List ℕ → Type 0
Pass test cs = AllByRecursion (λ c. test c ≡ true) cs

pub clash : (b : Bool) → b ≡ false → b ≡ true → ⊥
clash b f t = absurd (cc)

pub first_same : (x y : ℕ) (xs ys : List ℕ) → x ∷ xs ≡ y ∷ ys → x ≡ y
first_same x y xs ys e = cc

pub rest_same : (x y : ℕ) (xs ys : List ℕ) → x ∷ xs ≡ y ∷ ys → xs ≡ ys
rest_same x y xs ys e = cc

pub some_same : {A : Type 0} (x y : A) → ◌≡◌ {A = Option A} (Some x) (Some y) → x ≡ y
some_same x y e = cc

pub not_some : {A : Type 0} (x : A) → ◌≡◌ {A = Option A} None (Some x) → ⊥
not_some x e = absurd (cc)

-- what passes ends at the same place in both
pub spans : (test : ℕ → Bool) (xs ys s t : List ℕ) → Pass test xs → Pass test ys → begins test s ≡ false → begins test t ≡ false → xs ++ s ≡ ys ++ t → (xs ≡ ys) × (s ≡ t)
spans test [] [] s t p q f g e = (refl, e)
spans test [] (y ∷ ys) s t p q f g e = absurd (clash (begins test s) f (ap (begins test) e ∙ q.0))
spans test (x ∷ xs) [] s t p q f g e = absurd (clash (begins test t) g (ap (begins test) (sym e) ∙ p.0))
spans test (x ∷ xs) (y ∷ ys) s t p q f g e =
    let later = spans test xs ys s t p.1 q.1 f g (rest_same x y (xs ++ s) (ys ++ t) e) in
    let first = first_same x y (xs ++ s) (ys ++ t) e in
    ((λ i. first i ∷ later.0 i), later.1)

-- a byte that passes one test passes a weaker one, and where none stands that passes the weaker one none does
pub pass_more : (test more : ℕ → Bool) → ((c : ℕ) → test c ≡ true → more c ≡ true) → (cs : List ℕ) → Pass test cs → Pass more cs
pass_more test more f [] p = tt
pass_more test more f (c ∷ cs) p = (f c p.0, pass_more test more f cs p.1)

pub begins_less : (test more : ℕ → Bool) → ((c : ℕ) → test c ≡ true → more c ≡ true) → (s : List ℕ) → begins more s ≡ false → begins test s ≡ false
begins_less test more f [] g = refl
begins_less test more f (c ∷ s) g = by (test c) refl
  where
    by : (b : Bool) → test c ≡ b → b ≡ false
    by true is = absurd (clash (more c) g (f c is))
    by false is = refl
