-- What holds of each element of a list, and what is among its elements.
use Rattle.std.proofs.Common.{◌≡◌, ℕ, zero, suc, ◌<◌, ◌++◌, Bool, true, false, cond, List, [], ◌∷◌, length, sym, ap, subst, ◌∙◌, arith}
use Rattle.std.specs.Prelude.{map, filter}
use Rattle.std.specs.List.{AllByRecursion, Contains, flat_map, slice_index_or}
use Rattle.std.proofs.lemmas.List.{length-map, get_or-map}
use Rattle.std.proofs.lemmas.List.Elements.{Contains-append_left, Contains-append_right}

module _ {X : Type 0} (P : X → Type 0) where
  pub all_mapped : (f : X → X) → ((x : X) → P x → P (f x)) → (xs : List X) → AllByRecursion P xs → AllByRecursion P (map f xs)
  all_mapped f keeps [] all = tt
  all_mapped f keeps (x ∷ xs) all = (keeps x all.0, all_mapped f keeps xs all.1)

  pub all_filtered : (test : X → Bool) (xs : List X) → AllByRecursion P xs → AllByRecursion P (filter test xs)
  all_filtered test [] all = tt
  all_filtered test (x ∷ xs) all =
      elim (test x) as (λ b. AllByRecursion P (cond b (x ∷ filter test xs) (filter test xs))) [ true ↦ (all.0, all_filtered test xs all.1) | false ↦ all_filtered test xs all.1 ]

  pub all_appended : (Q : X → Type 0) → ((x : X) → P x → Q x) → (xs : List X) (last : X) → AllByRecursion P xs → Q last → AllByRecursion Q (xs ++ last ∷ [])
  all_appended Q weaker [] last all is = (is, tt)
  all_appended Q weaker (x ∷ xs) last all is = (weaker x all.0, all_appended Q weaker xs last all.1 is)

-- what each element is, all are
pub all_any : {X : Type 0} (P : X → Type 0) → ((x : X) → P x) → (xs : List X) → AllByRecursion P xs
all_any P each [] = tt
all_any P each (x ∷ xs) = (each x, all_any P each xs)

pub all_so : {X : Type 0} (P Q : X → Type 0) → ((x : X) → P x → Q x) → (xs : List X) → AllByRecursion P xs → AllByRecursion Q xs
all_so P Q to [] all = tt
all_so P Q to (x ∷ xs) all = (to x all.0, all_so P Q to xs all.1)

pub all_both : {X : Type 0} (P : X → Type 0) (xs ys : List X) → AllByRecursion P xs → AllByRecursion P ys → AllByRecursion P (xs ++ ys)
all_both P [] ys p q = q
all_both P (x ∷ xs) ys p q = (p.0, all_both P xs ys p.1 q)

-- of what is made of each element
pub all_made : {A X : Type 0} (P : X → Type 0) (f : A → X) (xs : List A) → AllByRecursion (λ a. P (f a)) xs → AllByRecursion P (map f xs)
all_made P f [] all = tt
all_made P f (x ∷ xs) all = (all.0, all_made P f xs all.1)

pub all_flat : {A X : Type 0} (P : X → Type 0) (f : A → List X) (xs : List A) → AllByRecursion (λ a. AllByRecursion P (f a)) xs → AllByRecursion P (flat_map f xs)
all_flat P f [] all = tt
all_flat P f (x ∷ xs) all = all_both P (f x) (flat_map f xs) all.0 (all_flat P f xs all.1)

-- ---- what is made of an element is among what is made of all
pub made_is_listed : {A X : Type 0} (f : A → X) (xs : List A) (a : A) → Contains xs a → Contains (map f xs) (f a)
made_is_listed f xs a there = (there.0, omega (arith, length-map xs f, there.1), get_or-map f xs there.0 a (f a) there.1 ∙ ap f there.2)

pub flat_is_listed : {A X : Type 0} (f : A → List X) (xs : List A) (a : A) (x : X) → Contains xs a → Contains (f a) x → Contains (flat_map f xs) x
flat_is_listed f [] a x there among = absurd (omega (arith, there.1))
flat_is_listed {A} {X} f (b ∷ bs) a x there among = by_place there.0 there.1 there.2 (flat_is_listed f bs a x)
  where
    by_place : (i : ℕ) → i < length (b ∷ bs) → slice_index_or (b ∷ bs) i a ≡ a → (Contains bs a → Contains (f a) x → Contains (flat_map f bs) x) → Contains (f b ++ flat_map f bs) x
    by_place zero less is later = Contains-append_left (f b) (flat_map f bs) x (subst (λ (c : A). Contains (f c) x) (sym is) among)
    by_place (suc i) less is later = Contains-append_right (f b) (flat_map f bs) x (later (i, omega (arith, less), is) among)
