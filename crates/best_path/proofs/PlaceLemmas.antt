-- The first of a list that passes a test, and lists of which another one was made.
use Rattle.std.proofs.Common.{◌≡◌, ℕ, zero, suc, ◌+◌, ◌<◌, ◌≤◌, Bool, true, false, cond, ◌||◌, List, [], ◌∷◌, ◌++◌, length, map, take, slice_index_or, slice_get, Some, refl, sym, ◌∙◌, ap, subst, arith}
use Rattle.std.specs.Prelude.{filter}
use Rattle.std.specs.List.{list_any}
use Rattle.std.proofs.lemmas.List.Elements.{filter-append}
use Rattle.std.proofs.lemmas.List.{length-map, take_all, take_more}
use Rattle.best_path.specs.Places.{first_of, IsPlaceOfFirst}

first_passes : {X : Type 0} → (p : X → Bool) (y : X) (ys : List X) → p y ≡ true → first_of (filter p (y ∷ ys)) ≡ Some y
first_passes p y ys t = rw t refl

fails_first : {X : Type 0} → (p : X → Bool) (y : X) (ys zs : List X) (i : ℕ) → filter p (y ∷ zs) ≡ [] →
    (filter p zs ≡ [] → first_of (filter p ys) ≡ slice_get ys i) → first_of (filter p (y ∷ ys)) ≡ slice_get ys i
fails_first p y ys zs i f k = grind (arith, f, k)

ap2 : {X : Type 0} → {ps qs rs ss : List X} → ps ≡ qs → rs ≡ ss → ps ++ rs ≡ qs ++ ss
ap2 e f = rw e (rw f refl)

-- the first one that passes a test
pub filter_first : {X : Type 0} → (p : X → Bool) (xs : List X) (i : ℕ) (x : X) → i < length xs → x ≡ slice_index_or xs i x →
    filter p (take i xs) ≡ [] → p x ≡ true → first_of (filter p xs) ≡ slice_get xs i
filter_first p [] i x h e f t = absurd (omega (arith, h))
filter_first p (y ∷ ys) zero x h e f t = first_passes p y ys (ap p (sym e) ∙ t)
filter_first p (y ∷ ys) (suc i) x h e f t =
    fails_first p y ys (take i ys) i f (λ g. filter_first p ys i x (omega (arith, h)) e g t)

-- one more that does not pass a test
pub filter_none_more : {X : Type 0} → (p : X → Bool) (xs : List X) (i : ℕ) (x : X) → i < length xs → x ≡ slice_index_or xs i x →
    filter p (take i xs) ≡ [] → p x ≡ false → filter p (take (i + 1) xs) ≡ []
filter_none_more p xs i x h e before t =
    ap (filter p) (take_more xs i x h ∙ ap (λ v. take i xs ++ v ∷ []) (sym e))
    ∙ filter-append p (take i xs) (x ∷ []) ∙ ap2 before (ap (λ b. cond b (x ∷ []) []) t)

-- ---- elements and what is made of them
pub list_any-map : {X Y : Type 0} → (p : Y → Bool) (f : X → Y) (xs : List X) → list_any p (map f xs) ≡ list_any (λ x. p (f x)) xs
list_any-map p f [] = refl
list_any-map p f (x ∷ xs) = ap (λ b. p (f x) || b) (list_any-map p f xs)

-- the element that this was made of
element_at : {X Y : Type 0} → (f : X → Y) (xs : List X) (i : ℕ) (y : Y) → i < length xs → y ≡ slice_index_or (map f xs) i y
    → (x : X) × ((x ≡ slice_index_or xs i x) × (y ≡ f x))
element_at f [] i y h e = absurd (omega (arith, h))
element_at f (x ∷ xs) zero y h e = (x, (refl, e))
element_at f (x ∷ xs) (suc i) y h e = element_at f xs i y (omega (arith, h)) e

module _ {X Y : Type 0} (f : X → Y) (xs : List X) (ys : List Y) (is : map f xs ≡ ys) where
  -- as many of them
  pub as_many : length xs ≡ length ys
  as_many = sym (length-map xs f) ∙ ap length is

  pub made_of : (i : ℕ) (y : Y) → i < length ys → y ≡ slice_index_or ys i y → (x : X) × ((x ≡ slice_index_or xs i x) × (y ≡ f x))
  made_of i y h e =
      element_at f xs i y (omega (arith, as_many, h)) (subst (λ l. y ≡ slice_index_or l i y) (sym is) e)

  -- all of them
  pub up_to_all : (n : ℕ) → length ys ≤ n → take n xs ≡ xs
  up_to_all n h = take_all n xs (omega (arith, as_many, h))

  -- the first one that passes a test
  pub filter_first_of : (p : Y → Bool) (i : ℕ) (y : Y) → i < length ys → y ≡ slice_index_or ys i y
      → filter (λ x. p (f x)) (take i xs) ≡ [] → p y ≡ true → IsPlaceOfFirst xs (filter (λ x. p (f x)) xs) (Some i)
  filter_first_of p i y h e before t =
      let x = made_of i y h e in
      (omega (arith, as_many, h), filter_first (λ z. p (f z)) xs i x.0 (omega (arith, as_many, h)) x.1.0 before (ap p (sym x.1.1) ∙ t))

  -- one more that does not pass it
  pub filter_none_more_of : (p : Y → Bool) (i : ℕ) (y : Y) → i < length ys → y ≡ slice_index_or ys i y
      → filter (λ x. p (f x)) (take i xs) ≡ [] → p y ≡ false → filter (λ x. p (f x)) (take (i + 1) xs) ≡ []
  filter_none_more_of p i y h e before t =
      let x = made_of i y h e in
      filter_none_more (λ z. p (f z)) xs i x.0 (omega (arith, as_many, h)) x.1.0 before (ap p (sym x.1.1) ∙ t)
