-- The laws of the decision.
use Rattle.std.proofs.Common.{◌≡◌, ◌≢◌, ℕ, zero, suc, ◌<◌, ◌≤◌, ◌⊎◌, Bool, true, false, not, ◌||◌, nat_lt, List, [], ◌∷◌, length, slice_index_or, Option, Some, None, refl, sym, ◌∙◌, ap, subst, arith, inl, inr}
use Rattle.std.specs.Prelude.{filter, Contains, AllPairs, IsPermutation}
use Rattle.std.specs.List.{list_any}
use Rattle.std.proofs.lemmas.List.Kept.{AllPairs-filter}
use Rattle.std.proofs.lemmas.List.Sorted.{Contains-permutation, IsPermutation-sym}
use Rattle.bgp_attr.specs.Routes.{Route}
use Rattle.best_path.specs.declared.step.Step.{Step}
use Rattle.best_path.specs.declared.step.Step.TheVariants.{Address}
use Rattle.best_path.specs.Keys.{is_local, peer_address, candidate_of}
use Rattle.best_path.specs.Places.{first_of}
use Rattle.best_path.specs.Steps.{beats_by, kept_by, left_by_all, local_or, pick, IsPlaceOfBest}
use Rattle.best_path.specs.Laws.{PickIsOneOfThem, NoneOnlyOfNothing, OneIsItsOwnBest, AtMostOneIsLeft, OrderDoesNotMatter}
use Rattle.best_path.proofs.StepLemmas.{Has, passed, passes, left_by, steps_before_last, all_steps}
use Rattle.best_path.proofs.PickLemmas.{leaves_one}

-- ---- elements
pub has_contains : {X : Type 0} → (xs : List X) (u : X) → Has xs u → Contains xs u
has_contains [] u h = absurd h
has_contains (x ∷ xs) u (inl e) = (0, omega arith, e)
has_contains (x ∷ xs) u (inr h) =
    let r = has_contains xs u h in let below : r.0 < length xs = r.1 in (suc r.0, omega (arith, below), r.2)

pub contains_has : {X : Type 0} → (xs : List X) (u : X) (k : ℕ) → k < length xs → slice_index_or xs k u ≡ u → Has xs u
contains_has [] u k h e = absurd (omega (arith, h))
contains_has (x ∷ xs) u zero h e = inl e
contains_has (x ∷ xs) u (suc k) h e = inr (contains_has xs u k (omega (arith, h)) e)

first_has : {X : Type 0} → (xs : List X) (u : X) → first_of xs ≡ Some u → Has xs u
first_has [] u e = grind (arith, e)
first_has (x ∷ xs) u e = grind (arith, e)

-- ---- the best is one of the list
step_of : (step : Step) (list : List Route) (u : Route) → Has (kept_by step list) u → Has list u
step_of step list u h = (passed (λ other. not (list_any (λ one. beats_by step (candidate_of one) (candidate_of other)) list)) list u h).0

pub left_of : (steps : List Step) (list : List Route) (u : Route) → Has (left_by steps list) u → Has list u
left_of [] list u h = h
left_of (step ∷ steps) list u h = step_of step list u (left_of steps (kept_by step list) u h)

one_of_both : (locals others : List Route) (u : Route) → local_or locals others ≡ Some u → Has locals u ⊎ Has others u
one_of_both [] others u e = inr (first_has others u e)
one_of_both (x ∷ xs) others u e = inl (first_has (x ∷ xs) u e)

pub pick_is_one_of_them : PickIsOneOfThem
pick_is_one_of_them list best e =
    has_contains list best
    (elim (one_of_both (filter is_local list) (left_by_all list) best e) [
      | inl h ↦ (passed is_local list best h).0
      | inr h ↦ left_of all_steps list best h
    ])

-- ---- one candidate
pick_not_none : (locals others : List Route) → local_or locals others ≡ None → (locals ≡ []) × (others ≡ [])
pick_not_none [] [] e = (refl, refl)
pick_not_none [] (y ∷ ys) e = grind (arith, e)
pick_not_none (x ∷ xs) others e = grind (arith, e)

pub none_only_of_nothing : NoneOnlyOfNothing
none_only_of_nothing list e = leaves_one list (pick_not_none (filter is_local list) (left_by_all list) e).1

cons_not_nil : (x : Route) (xs : List Route) → x ∷ xs ≡ [] → ⊥
cons_not_nil x xs e = grind (arith, e)

only_one : (one : Route) (o : Option Route) → pick (one ∷ []) ≡ o → pick (one ∷ []) ≡ Some one
only_one one None e =
    absurd (cons_not_nil one [] (leaves_one (one ∷ []) (pick_not_none (filter is_local (one ∷ [])) (left_by_all (one ∷ [])) e).1))
only_one one (Some u) e =
    let at = pick_is_one_of_them (one ∷ []) u e in
    elim (contains_has (one ∷ []) u at.0 at.1 at.2) [ inl h ↦ e ∙ ap Some (sym h) | inr h ↦ absurd h ]

pub one_is_its_own_best : OneIsItsOwnBest
one_is_its_own_best one = only_one one (pick (one ∷ [])) refl

-- so its place is that of the best
pub picked_only : (list : List Route) → length list ≡ 1 → IsPlaceOfBest list (Some 0)
picked_only [] h = absurd (omega (arith, h))
picked_only (r ∷ []) h = (omega arith, one_is_its_own_best r)
picked_only (r ∷ s ∷ rs) h = absurd (omega (arith, h))

-- ---- at most one is left
pub neither_left : (a b : Bool) → (a || b) ≡ false → a ≡ false
neither_left true b h = h
neither_left false b h = refl

pub neither_right : (a b : Bool) → (a || b) ≡ false → b ≡ false
neither_right true b h = grind (arith, h)
neither_right false b h = h

pub fails_all : {X : Type 0} → (p : X → Bool) (xs : List X) (u : X) → list_any p xs ≡ false → Has xs u → p u ≡ false
fails_all p [] u f h = absurd h
fails_all p (x ∷ xs) u f (inl e) = ap p (sym e) ∙ neither_left (p x) (list_any p xs) f
fails_all p (x ∷ xs) u f (inr h) = fails_all p xs u (neither_right (p x) (list_any p xs) f) h

pub not_true : (a : Bool) → not a ≡ true → a ≡ false
not_true true h = sym h
not_true false h = refl

none_beats : (step : Step) (list : List Route) (u v : Route) → Has (kept_by step list) u → Has list v → beats_by step (candidate_of v) (candidate_of u) ≡ false
none_beats step list u v h k =
    fails_all (λ one. beats_by step (candidate_of one) (candidate_of u)) list v
    (not_true (list_any (λ one. beats_by step (candidate_of one) (candidate_of u)) list)
    (passed (λ other. not (list_any (λ one. beats_by step (candidate_of one) (candidate_of other)) list)) list u h).1) k

neither_below : (a b : ℕ) → nat_lt a b ≡ false → nat_lt b a ≡ false → a ≡ b
neither_below a b h k = grind (arith, h, k)

none_local_case : (list : List Route) (u : Route) (b : Bool) → is_local u ≡ b → filter is_local list ≡ [] → Has list u → is_local u ≡ false
none_local_case list u true t e h =
    let P : List Route → Type 0 = λ l. Has l u in absurd (subst P e (passes is_local list u h t))
none_local_case list u false t e h = t

none_local : (list : List Route) (u : Route) → filter is_local list ≡ [] → Has list u → is_local u ≡ false
none_local list u e h = none_local_case list u (is_local u) refl e h

abbrev Apart : Route → Route → Type 0
Apart one other = is_local one ≡ false → is_local other ≡ false → peer_address one ≢ peer_address other

step_apart : (step : Step) (list : List Route) → AllPairs Apart list → AllPairs Apart (kept_by step list)
step_apart step list h = AllPairs-filter Apart (λ other. not (list_any (λ one. beats_by step (candidate_of one) (candidate_of other)) list)) list h

left_apart : (steps : List Step) (list : List Route) → AllPairs Apart list → AllPairs Apart (left_by steps list)
left_apart [] list h = h
left_apart (step ∷ steps) list h = left_apart steps (kept_by step list) (step_apart step list h)

two_left : (left : List Route) → AllPairs Apart left → ((u : Route) → Has left u → is_local u ≡ false) →
    ((u v : Route) → Has left u → Has left v → (peer_address u) ≡ (peer_address v)) → length left ≤ 1
two_left [] h n same = omega arith
two_left (x ∷ []) h n same = omega arith
two_left (x ∷ y ∷ zs) h n same =
    absurd (h 0 1 x (omega arith) (omega arith) (n x (inl refl)) (n y (inr (inl refl))) (same x y (inl refl) (inr (inl refl))))

same_address : (list : List Route) (u v : Route) → Has (kept_by Address list) u → Has (kept_by Address list) v → (peer_address u) ≡ (peer_address v)
same_address list u v h k =
    neither_below (peer_address u) (peer_address v) (none_beats Address list v u k (step_of Address list u h))
    (none_beats Address list u v h (step_of Address list v k))

pub at_most_one_is_left : AtMostOneIsLeft
at_most_one_is_left list n apart =
    two_left (left_by_all list) (left_apart all_steps list apart) (λ u h. none_local list u n (left_of all_steps list u h))
    (same_address (left_by steps_before_last list))

-- ---- order
pub record HaveTheSame {X : Type 0} (xs ys : List X) : Type 0 where
  pub there : (u : X) → Has xs u → Has ys u
  pub back : (u : X) → Has ys u → Has xs u

found_case : {X : Type 0} → (p : X → Bool) (x : X) (xs : List X) (b : Bool) → p x ≡ b → (b || list_any p xs) ≡ true →
    (list_any p xs ≡ true → (u : X) × (Has xs u × (p u ≡ true))) → (u : X) × (Has (x ∷ xs) u × (p u ≡ true))
found_case p x xs true e t k = (x, (inl refl, e))
found_case p x xs false e t k = let r = k t in (r.0, (inr r.1.0, r.1.1))

pub found : {X : Type 0} → (p : X → Bool) (xs : List X) → list_any p xs ≡ true → (u : X) × (Has xs u × (p u ≡ true))
found p [] t = grind (arith, t)
found p (x ∷ xs) t = found_case p x xs (p x) refl t (λ k. found p xs k)

any_stays : {X : Type 0} → (p : X → Bool) (xs ys : List X) → HaveTheSame xs ys → (b : Bool) → list_any p xs ≡ b →
    (c : Bool) → list_any p ys ≡ c → b ≡ c
any_stays p xs ys s true e true f = refl
any_stays p xs ys s true e false f =
    let r = found p xs e in sym (sym (fails_all p ys r.0 f (s.there r.0 r.1.0)) ∙ r.1.1)
any_stays p xs ys s false e true f =
    let r = found p ys f in sym (fails_all p xs r.0 e (s.back r.0 r.1.0)) ∙ r.1.1
any_stays p xs ys s false e false f = refl

same_filter : {X : Type 0} → (p q : X → Bool) (xs ys : List X) → HaveTheSame xs ys → ((u : X) → p u ≡ q u) →
    HaveTheSame (filter p xs) (filter q ys)
same_filter p q xs ys s e = record {
  there = λ u h. let r = passed p xs u h in passes q ys u (s.there u r.0) (sym (e u) ∙ r.1);
  back = λ u h. let r = passed q ys u h in passes p xs u (s.back u r.0) (e u ∙ r.1);
}

same_step : (step : Step) (xs ys : List Route) → HaveTheSame xs ys → HaveTheSame (kept_by step xs) (kept_by step ys)
same_step step xs ys s =
    same_filter (λ other. not (list_any (λ one. beats_by step (candidate_of one) (candidate_of other)) xs)) (λ other. not (list_any (λ one. beats_by step (candidate_of one) (candidate_of other)) ys))
    xs ys s
    (λ u. ap not (any_stays (λ one. beats_by step (candidate_of one) (candidate_of u)) xs ys s (list_any (λ one. beats_by step (candidate_of one) (candidate_of u)) xs) refl
    (list_any (λ one. beats_by step (candidate_of one) (candidate_of u)) ys) refl))

same_left : (steps : List Step) (xs ys : List Route) → HaveTheSame xs ys → HaveTheSame (left_by steps xs) (left_by steps ys)
same_left [] xs ys s = s
same_left (step ∷ steps) xs ys s = same_left steps (kept_by step xs) (kept_by step ys) (same_step step xs ys s)

same_first : (xs ys : List Route) → HaveTheSame xs ys → length xs ≤ 1 → first_of xs ≡ first_of ys
same_first [] [] s h = refl
same_first [] (y ∷ ys) s h = absurd (s.back y (inl refl))
same_first (x ∷ []) [] s h = absurd (s.there x (inl refl))
same_first (x ∷ []) (y ∷ ys) s h = elim (s.back y (inl refl)) [ inl e ↦ ap Some e | inr k ↦ absurd k ]
same_first (x ∷ z ∷ zs) ys s h = absurd (omega (arith, h))

same_pick : (ls ms xs ys : List Route) → HaveTheSame ls ms → length ls ≤ 1 → HaveTheSame xs ys → (ls ≡ [] → length xs ≤ 1) →
    local_or ls xs ≡ local_or ms ys
same_pick [] [] xs ys s h t k = same_first xs ys t (k refl)
same_pick [] (m ∷ ms) xs ys s h t k = absurd (s.back m (inl refl))
same_pick (l ∷ ls) [] xs ys s h t k = absurd (s.there l (inl refl))
same_pick (l ∷ ls) (m ∷ ms) xs ys s h t k = same_first (l ∷ ls) (m ∷ ms) s h

permuted : (xs ys : List Route) → IsPermutation xs ys → (u : Route) → Has xs u → Has ys u
permuted xs ys p u h =
    let r = Contains-permutation xs ys u p (has_contains xs u h) in contains_has ys u r.0 r.1 r.2

pub order_does_not_matter : OrderDoesNotMatter
order_does_not_matter list other one apart p =
    let s : HaveTheSame list other =
    record { there = permuted list other p; back = permuted other list (IsPermutation-sym list other p) } in
    same_pick (filter is_local list) (filter is_local other) (left_by_all list) (left_by_all other)
    (same_filter is_local is_local list other s (λ u. refl)) one (same_left all_steps list other s)
    (λ n. at_most_one_is_left list n apart)
