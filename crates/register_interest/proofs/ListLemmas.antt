-- Lists in strict order, and the entries of a part of a map.
use Rattle.std.proofs.Common.{◌≡◌, zero, suc, Bool, true, false, cond, List, [], ◌∷◌, ◌++◌, refl, sym, ap, ◌∙◌, subst, inl, inr, arith}
use Rattle.std.specs.List.{Contains, AllByRecursion, filter}
use Rattle.std.specs.List.Sorted.{IsStrictlySortedBy}
use Rattle.std.specs.Map.{keys_of}
use Rattle.std.proofs.lemmas.List.Elements.{Contains-append_cases, Contains-append_left, Contains-push}
use Rattle.std.specs.declared.cmp.Ordering.{Ordering}
use Rattle.std.specs.declared.cmp.Ordering.TheVariants.{Less}

module _ {X : Type 0} where
  there : (x : X) (xs : List X) (y : X) → Contains xs y → Contains (x ∷ xs) y
  there x xs y c = (suc c.0, omega (arith, c.1), c.2)

  all_contained : (P : X → Type 0) (xs : List X) → ((y : X) → Contains xs y → P y) → AllByRecursion P xs
  all_contained P [] h = tt
  all_contained P (x ∷ xs) h = (h x (0, omega arith, refl), all_contained P xs (λ y c. h y (there x xs y c)))

  contained_all : (P : X → Type 0) (xs : List X) → AllByRecursion P xs → (y : X) → Contains xs y → P y
  contained_all P [] h y c = absurd (omega (arith, c.1))
  contained_all P (x ∷ xs) h y (zero, lt, is) = subst P is h.0
  contained_all P (x ∷ xs) h y (suc i, lt, is) = contained_all P xs h.1 y (i, omega arith, is)

  -- two lists in order, the one before the other
  pub sorted_append : (c : X → X → Ordering) (xs ys : List X) → IsStrictlySortedBy c xs → IsStrictlySortedBy c ys → ((x y : X) → Contains xs x → Contains ys y → c x y ≡ Less) → IsStrictlySortedBy c (xs ++ ys)
  unfolding IsStrictlySortedBy
  sorted_append c [] ys sx sy before = sy
  sorted_append c (x ∷ xs) ys sx sy before = (
    all_contained (λ y. c x y ≡ Less) (xs ++ ys) (λ y h. elim (Contains-append_cases xs ys y h) [
      | inl old ↦ contained_all (λ y. c x y ≡ Less) xs sx.0 y old
      | inr new ↦ before x y (0, omega arith, refl) new
    ]),
    sorted_append c xs ys sx.1 sy (λ a b ha hb. before a b (there x xs a ha) hb),
  )

  last_before : (c : X → X → Ordering) (x : X) (xs : List X) (y : X) → c x y ≡ Less → ((z : X) → Contains xs z → c z y ≡ Less) → (z : X) → Contains (x ∷ xs) z → c z y ≡ Less
  last_before c x xs y first rest z (zero, lt, is) = subst (λ u. c u y ≡ Less) is first
  last_before c x xs y first rest z (suc i, lt, is) = rest z (i, omega arith, is)

  -- what the front of a list in order has comes before its last
  pub sorted_front : (c : X → X → Ordering) (xs : List X) (y : X) → IsStrictlySortedBy c (xs ++ y ∷ []) → IsStrictlySortedBy c xs × ((x : X) → Contains xs x → c x y ≡ Less)
  unfolding IsStrictlySortedBy
  sorted_front c [] y s = (tt, λ x h. absurd (omega (arith, h.1)))
  sorted_front c (x ∷ xs) y s =
      let rest = sorted_front c xs y s.1 in
      let all = contained_all (λ z. c x z ≡ Less) (xs ++ y ∷ []) s.0 in (
        (all_contained (λ z. c x z ≡ Less) xs (λ z h. all z (Contains-append_left xs (y ∷ []) z h)), rest.0),
        last_before c x xs y (all y (Contains-push xs y)) rest.1,
      )

  filter_keeps : (t : X → Bool) (x : X) (b : Bool) (xs ys : List X) → t x ≡ b → ((y : X) → Contains ys y → Contains xs y × (t y ≡ true)) → (y : X) → Contains (cond b (x ∷ ys) ys) y → Contains (x ∷ xs) y × (t y ≡ true)
  filter_keeps t x true xs ys is h y (zero, lt, e) = ((0, omega arith, e), ap t (sym e) ∙ is)
  filter_keeps t x true xs ys is h y (suc i, lt, e) = let g = h y (i, omega arith, e) in (there x xs y g.0, g.1)
  filter_keeps t x false xs ys is h y c = let g = h y c in (there x xs y g.0, g.1)

  pub contains_filter : (t : X → Bool) (xs : List X) (y : X) → Contains (filter t xs) y → Contains xs y × (t y ≡ true)
  contains_filter t [] y c = absurd (omega (arith, c.1))
  contains_filter t (x ∷ xs) y c = filter_keeps t x (t x) xs (filter t xs) refl (contains_filter t xs) y c

  filter_has : (x : X) (b : Bool) (ys : List X) (y : X) → Contains ys y → Contains (cond b (x ∷ ys) ys) y
  filter_has x true ys y c = there x ys y c
  filter_has x false ys y c = c

  filter_first : (t : X → Bool) (x : X) (b : Bool) (ys : List X) (y : X) → x ≡ y → t x ≡ b → t y ≡ true → Contains (cond b (x ∷ ys) ys) y
  filter_first t x true ys y e is h = (0, omega arith, e)
  filter_first t x false ys y e is h = absurd (let clash : false ≡ true = sym is ∙ ap t e ∙ h in cc)

  pub filter_contains : (t : X → Bool) (xs : List X) (y : X) → Contains xs y → t y ≡ true → Contains (filter t xs) y
  filter_contains t [] y c h = absurd (omega (arith, c.1))
  filter_contains t (x ∷ xs) y (zero, lt, is) h = filter_first t x (t x) (filter t xs) y is refl h
  filter_contains t (x ∷ xs) y (suc i, lt, is) h = filter_has x (t x) (filter t xs) y (filter_contains t xs y (i, omega arith, is) h)

module _ {K X : Type 0} where
  pub keys_pushed : (es : List (K × X)) (e : K × X) → keys_of (es ++ e ∷ []) ≡ keys_of es ++ e.0 ∷ []
  keys_pushed [] e = refl
  keys_pushed (x ∷ es) e = ap (λ l. x.0 ∷ l) (keys_pushed es e)

  pub has_key : (es : List (K × X)) (e : K × X) → Contains es e → Contains (keys_of es) e.0
  has_key [] e c = absurd (omega (arith, c.1))
  has_key (x ∷ es) e (zero, lt, is) = (0, omega arith, ap (λ (z : K × X). z.0) is)
  has_key (x ∷ es) e (suc i, lt, is) = there x.0 (keys_of es) e.0 (has_key es e (i, omega arith, is))

  keys_cond : (t : K → Bool) (b : Bool) (x : K × X) (es : List (K × X)) (ks : List K) → keys_of es ≡ ks → keys_of (cond b (x ∷ es) es) ≡ cond b (x.0 ∷ ks) ks
  keys_cond t true x es ks e = ap (λ l. x.0 ∷ l) e
  keys_cond t false x es ks e = e

  pub keys_filter : (t : K → Bool) (es : List (K × X)) → keys_of (filter (λ e. t e.0) es) ≡ filter t (keys_of es)
  keys_filter t [] = refl
  keys_filter t (x ∷ es) = keys_cond t (t x.0) x (filter (λ e. t e.0) es) (filter t (keys_of es)) (keys_filter t es)
