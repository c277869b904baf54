-- Lists in strict order with the same members are one.
use Rattle.std.proofs.Common.{◌≡◌, ◌⊎◌, zero, suc, List, [], ◌∷◌, refl, sym, ap, ◌∙◌, subst, inl, inr, arith}
use Rattle.std.specs.declared.cmp.Ordering.{Ordering}
use Rattle.std.specs.declared.cmp.Ordering.TheVariants.{Less, Greater}
use Rattle.std.specs.Ordering.{ordering_reverse}
use Rattle.std.specs.Cmp.{IsTotalOrder}
use Rattle.std.specs.List.{Contains}
use Rattle.std.specs.List.Sorted.{IsStrictlySortedBy}
use Rattle.std.proofs.lemmas.List.Elements.{All-contains, Contains-append_right}
use Rattle.std.proofs.lemmas.Map.Keys.{sorted_tail}
use Rattle.std.proofs.lemmas.Map.Views.{All-after_first}

module _ {X : Type 0} (cmp : X → X → Ordering) (total : IsTotalOrder cmp) where
  -- the first, or one behind it
  parted : (x : X) (xs : List X) (y : X) → Contains (x ∷ xs) y → (x ≡ y) ⊎ Contains xs y
  parted x xs y (zero, lt, is) = inl is
  parted x xs y (suc i, lt, is) = inr (i, omega (arith, lt), is)

  -- a list has its first
  front : (x : X) (xs : List X) → Contains (x ∷ xs) x
  front x xs = (0, omega arith, refl)

  -- no two are each below the other
  never_both : (x y : X) → cmp x y ≡ Less → cmp y x ≡ Less → ⊥
  never_both x y less more = let clash : Less ≡ Greater = sym less ∙ total.antisymm x y ∙ ap ordering_reverse more in cc

  -- the first comes before all others of its list
  below : (x : X) (xs : List X) (y : X) → IsStrictlySortedBy cmp (x ∷ xs) → Contains xs y → cmp x y ≡ Less
  below x xs y sorted c = All-contains (λ z. cmp x z ≡ Less) xs y (All-after_first cmp x xs sorted) c

  -- two lists in order that have each other's first begin alike
  first_is_one : (x y : X) (xs ys : List X) → IsStrictlySortedBy cmp (x ∷ xs) → IsStrictlySortedBy cmp (y ∷ ys) → Contains (x ∷ xs) y → Contains (y ∷ ys) x → x ≡ y
  first_is_one x y xs ys sx sy here there = elim (parted x xs y here) [
    | inl is ↦ is
    | inr later ↦ elim (parted y ys x there) [ inl is ↦ sym is | inr too ↦ absurd (never_both x y (below x xs y sx later) (below y ys x sy too)) ]
  ]

  -- then a member behind the first is one behind the other's first
  rest_has : (x y : X) (xs ys : List X) → x ≡ y → IsStrictlySortedBy cmp (x ∷ xs) → ((z : X) → Contains (x ∷ xs) z → Contains (y ∷ ys) z) → (z : X) → Contains xs z → Contains ys z
  rest_has x y xs ys same sorted each z c = elim (parted y ys z (each z (Contains-append_right (x ∷ []) xs z c))) [
    | inl is ↦
        let less = subst (λ (u : X). cmp u z ≡ Less) (same ∙ is) (below x xs z sorted c) in
        absurd (never_both z z less less)
    | inr later ↦ later
  ]

  pub sorted_is_one : (xs ys : List X) → IsStrictlySortedBy cmp xs → IsStrictlySortedBy cmp ys → ((z : X) → Contains xs z → Contains ys z) → ((z : X) → Contains ys z → Contains xs z) → xs ≡ ys
  sorted_is_one [] [] sx sy there back = refl
  sorted_is_one [] (y ∷ ys) sx sy there back = absurd (let c = back y (front y ys) in omega (arith, c.1))
  sorted_is_one (x ∷ xs) [] sx sy there back = absurd (let c = there x (front x xs) in omega (arith, c.1))
  sorted_is_one (x ∷ xs) (y ∷ ys) sx sy there back =
      let same = first_is_one x y xs ys sx sy (back y (front y ys)) (there x (front x xs)) in
      let rest = sorted_is_one xs ys (sorted_tail cmp x xs sx) (sorted_tail cmp y ys sy) (rest_has x y xs ys same sx there) (rest_has y x ys xs (sym same) sy back) in
      λ i. same i ∷ rest i
