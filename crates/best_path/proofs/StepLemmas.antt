-- What a step keeps.
use Rattle.std.proofs.Common.{◌≡◌, ℕ, ◌⊎◌, Bool, true, false, cond, not, ◌&&◌, ◌||◌, nat_lt, nat_eq, List, [], ◌∷◌, ◌++◌, refl, sym, ◌∙◌, ap, subst, arith, inl, inr}
use Rattle.std.specs.Prelude.{filter}
use Rattle.std.specs.List.{list_any}
use Rattle.bgp_attr.specs.Routes.{Route}
use Rattle.best_path.specs.declared.step.Step.{Step}
use Rattle.best_path.specs.declared.step.Step.TheVariants.{Preference, PathLength, Origin, Med, External, InteriorMetric, Identifier, ClusterCount, Address}
use Rattle.best_path.specs.Keys.{origin_rank, candidate_of}
use Rattle.best_path.specs.Steps.{beats_by, kept_by}

-- u is an element
abbrev pub Has : {X : Type 0} → List X → X → Type 0
Has [] u = ⊥
Has (x ∷ xs) u = (x ≡ u) ⊎ Has xs u

-- no one beats itself, and who beats one that beats a third beats the third
pub record IsStrict {X : Type 0} (beats : X → X → Bool) : Type 0 where
  pub never_itself : (x : X) → beats x x ≡ false
  pub along : (x y z : X) → beats x y ≡ true → beats y z ≡ true → beats x z ≡ true

pub or_false : (a b : Bool) → a ≡ false → b ≡ false → (a || b) ≡ false
or_false a b h k = rw h k

left_false : (a b : Bool) → (a || b) ≡ false → a ≡ false
left_false true b h = h
left_false false b h = refl

right_false : (a b : Bool) → (a || b) ≡ false → b ≡ false
right_false true b h = grind (arith, h)
right_false false b h = h

pub left_true : (a b : Bool) → (a && b) ≡ true → a ≡ true
left_true true b h = refl
left_true false b h = h

pub right_true : (a b : Bool) → (a && b) ≡ true → b ≡ true
right_true true b h = h
right_true false b h = grind (arith, h)

and_true : (a b : Bool) → a ≡ true → b ≡ true → (a && b) ≡ true
and_true a b h k = rw h k

and_false : (a b : Bool) → b ≡ false → (a && b) ≡ false
and_false true b h = h
and_false false b h = refl

false_by_weaker : (a b : Bool) → (a ≡ true → b ≡ true) → b ≡ false → a ≡ false
false_by_weaker true b h f = sym (h refl) ∙ f
false_by_weaker false b h f = refl

pub none_by_weaker : {X : Type 0} → (p q : X → Bool) (xs : List X) → ((x : X) → p x ≡ true → q x ≡ true) →
    list_any q xs ≡ false → list_any p xs ≡ false
none_by_weaker p q [] h f = refl
none_by_weaker p q (x ∷ xs) h f =
    or_false (p x) (list_any p xs) (false_by_weaker (p x) (q x) (h x) (left_false (q x) (list_any q xs) f))
    (none_by_weaker p q xs h (right_false (q x) (list_any q xs) f))

-- who is best with one more at the front
one_more_case : {X : Type 0} → (beats : X → X → Bool) → IsStrict beats → (x : X) (xs : List X) (u : X) (b : Bool) → beats x u ≡ b →
    Has xs u → list_any (λ one. beats one u) xs ≡ false → (v : X) × (Has (x ∷ xs) v × (list_any (λ one. beats one v) (x ∷ xs) ≡ false))
one_more_case beats s x xs u true e h f = (
  x,
  (
    inl refl,
    or_false (beats x x) (list_any (λ one. beats one x) xs) (s.never_itself x)
        (none_by_weaker (λ one. beats one x) (λ one. beats one u) xs (λ one w. s.along one x u w e) f),
  ),
)
one_more_case beats s x xs u false e h f =
    (u, (inr h, or_false (beats x u) (list_any (λ one. beats one u) xs) e f))

one_more : {X : Type 0} → (beats : X → X → Bool) → IsStrict beats → (x : X) (xs : List X) →
    ((u : X) × (Has xs u × (list_any (λ one. beats one u) xs ≡ false))) →
    (u : X) × (Has (x ∷ xs) u × (list_any (λ one. beats one u) (x ∷ xs) ≡ false))
one_more beats s x xs h = one_more_case beats s x xs h.0 (beats x h.0) refl h.1.0 h.1.1

champion : {X : Type 0} → (beats : X → X → Bool) → IsStrict beats → (x : X) (xs : List X) →
    (u : X) × (Has (x ∷ xs) u × (list_any (λ one. beats one u) (x ∷ xs) ≡ false))
champion beats s x [] = (x, (inl refl, rw (s.never_itself x) refl))
champion beats s x (y ∷ ys) = one_more beats s x (y ∷ ys) (champion beats s y ys)

behind_one : {X : Type 0} → (b : Bool) (x : X) (xs : List X) (u : X) → Has xs u → Has (cond b (x ∷ xs) xs) u
behind_one true x xs u h = inr h
behind_one false x xs u h = h

pub passes : {X : Type 0} → (p : X → Bool) (xs : List X) (u : X) → Has xs u → p u ≡ true → Has (filter p xs) u
passes p [] u h t = h
passes p (x ∷ xs) u (inl e) t = let q : p x ≡ true = ap p e ∙ t in rw q (inl e)
passes p (x ∷ xs) u (inr h) t = behind_one (p x) x (filter p xs) u (passes p xs u h t)

passed_case : {X : Type 0} → (p : X → Bool) (x : X) (xs : List X) (u : X) (b : Bool) → p x ≡ b → Has (cond b (x ∷ filter p xs) (filter p xs)) u →
    (Has (filter p xs) u → Has xs u × (p u ≡ true)) → Has (x ∷ xs) u × (p u ≡ true)
passed_case p x xs u true e (inl h) k = (inl h, ap p (sym h) ∙ e)
passed_case p x xs u true e (inr h) k = (inr (k h).0, (k h).1)
passed_case p x xs u false e h k = (inr (k h).0, (k h).1)

pub passed : {X : Type 0} → (p : X → Bool) (xs : List X) (u : X) → Has (filter p xs) u → Has xs u × (p u ≡ true)
passed p [] u h = absurd h
passed p (x ∷ xs) u h = passed_case p x xs u (p x) refl h (λ k. passed p xs u k)

pub never_below : (a : ℕ) → nat_lt a a ≡ false
never_below a = grind arith

pub lt_along : (a b c : ℕ) → nat_lt a b ≡ true → nat_lt b c ≡ true → nat_lt a c ≡ true
lt_along a b c h k = grind (arith, h, k)

eq_along : (a b c : ℕ) → nat_eq a b ≡ true → nat_eq b c ≡ true → nat_eq a c ≡ true
eq_along a b c h k = grind (arith, h, k)

itself_false : (a : Bool) → (not a && a) ≡ false
itself_false true = refl
itself_false false = refl

external_along : (a b c : Bool) → (not a && b) ≡ true → (not b && c) ≡ true → (not a && c) ≡ true
external_along true b c h k = h
external_along false true c h k = grind (arith, k)
external_along false false c h k = k

lt_strict : {X : Type 0} → (key : X → ℕ) → IsStrict (λ x y. nat_lt (key x) (key y))
lt_strict key =
    record { never_itself = λ x. never_below (key x); along = λ x y z h k. lt_along (key x) (key y) (key z) h k }

gt_strict : {X : Type 0} → (key : X → ℕ) → IsStrict (λ x y. nat_lt (key y) (key x))
gt_strict key =
    record { never_itself = λ x. never_below (key x); along = λ x y z h k. lt_along (key z) (key y) (key x) k h }

pub strict : (step : Step) → IsStrict (beats_by step)
strict Preference = gt_strict (λ c. c.pref)
strict PathLength = lt_strict (λ c. c.hops)
strict Origin = lt_strict (λ c. origin_rank c.origin)
strict Med = record {
  never_itself = λ x. and_false (nat_eq x.neighbour_as x.neighbour_as) (nat_lt x.med x.med) (never_below x.med);
  along = λ x y z h k.
      and_true (nat_eq x.neighbour_as z.neighbour_as) (nat_lt x.med z.med)
      (eq_along x.neighbour_as y.neighbour_as z.neighbour_as
      (left_true (nat_eq x.neighbour_as y.neighbour_as) (nat_lt x.med y.med) h)
      (left_true (nat_eq y.neighbour_as z.neighbour_as) (nat_lt y.med z.med) k))
      (lt_along x.med y.med z.med
      (right_true (nat_eq x.neighbour_as y.neighbour_as) (nat_lt x.med y.med) h)
      (right_true (nat_eq y.neighbour_as z.neighbour_as) (nat_lt y.med z.med) k));
}
strict External = record {
  never_itself = λ x. itself_false x.internal;
  along = λ x y z h k. external_along x.internal y.internal z.internal h k;
}
strict InteriorMetric = lt_strict (λ c. c.igp)
strict Identifier = lt_strict (λ c. c.id)
strict ClusterCount = lt_strict (λ c. c.clusters)
strict Address = lt_strict (λ c. c.addr)

-- a step takes out no last one
pub leaves_some : {X : Type 0} → (beats : X → X → Bool) → IsStrict beats → (list : List X) →
    filter (λ other. not (list_any (λ one. beats one other) list)) list ≡ [] → list ≡ []
leaves_some beats s [] h = refl
leaves_some beats s (x ∷ xs) h =
    let best = champion beats s x xs in
    let kept : Has (filter (λ other. not (list_any (λ one. beats one other) (x ∷ xs))) (x ∷ xs)) best.0 =
    passes (λ other. not (list_any (λ one. beats one other) (x ∷ xs))) (x ∷ xs) best.0 best.1.0 (ap not best.1.1) in
    absurd (subst (λ l. Has l best.0) h kept)

pub keeps_one : (step : Step) (list : List Route) → kept_by step list ≡ [] → list ≡ []
keeps_one step list h =
    leaves_some (λ one other. beats_by step (candidate_of one) (candidate_of other))
    (record {
      never_itself = λ r. (strict step).never_itself (candidate_of r);
      along = λ r s t h k. (strict step).along (candidate_of r) (candidate_of s) (candidate_of t) h k;
    }) list h

-- ---- steps one after the other
abbrev pub left_by : List Step → List Route → List Route
left_by [] list = list
left_by (step ∷ steps) list = left_by steps (kept_by step list)

-- the steps of the decision
abbrev pub steps_before_last : List Step
steps_before_last =
    Preference ∷ PathLength ∷ Origin ∷ Med ∷ External ∷ InteriorMetric ∷ Identifier ∷ ClusterCount ∷ []

abbrev pub all_steps : List Step
all_steps = steps_before_last ++ Address ∷ []

-- they take out no last one
pub leave_one : (steps : List Step) (list : List Route) → left_by steps list ≡ [] → list ≡ []
leave_one [] list h = h
leave_one (step ∷ steps) list h = keeps_one step list (leave_one steps (kept_by step list) h)
