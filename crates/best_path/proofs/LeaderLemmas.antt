-- Who leads in several steps, each by a key.
use Rattle.std.proofs.Common.{◌≡◌, ◌⊎◌, Bool, true, false, not, ◌&&◌, ◌||◌, nat_lt, ℕ, List, [], ◌∷◌, cond, refl, sym, ◌∙◌, ap, arith, inl, inr}
use Rattle.std.specs.Prelude.{filter}
use Rattle.std.specs.List.{list_any}
use Rattle.bgp_attr.specs.Routes.{Route}
use Rattle.best_path.specs.declared.candidate.Candidate.{Candidate}
use Rattle.best_path.specs.declared.step.Step.{Step}
use Rattle.best_path.specs.declared.step.Step.TheVariants.{Preference, PathLength, Origin, Med, External, InteriorMetric, Identifier, ClusterCount, Address}
use Rattle.best_path.specs.Keys.{origin_rank, candidate_of}
use Rattle.best_path.specs.Steps.{beats_by, kept_by, is_level}
use Rattle.best_path.specs.Leaders.{first_steps, last_steps, goes_before}
use Rattle.best_path.proofs.StepLemmas.{Has, IsStrict, strict, or_false, passes, passed, left_by}
use Rattle.best_path.proofs.LawLemmas.{fails_all, not_true}

-- ---- steps by a key
-- who does not beat one that does not beat a third does not beat the third
abbrev pub IsLevel : (Candidate → Candidate → Bool) → Type 0
IsLevel beats = (x y z : Candidate) → beats x y ≡ false → beats y z ≡ false → beats x z ≡ false

not_lt_along : (a b c : ℕ) → nat_lt a b ≡ false → nat_lt b c ≡ false → nat_lt a c ≡ false
not_lt_along a b c h k = grind (arith, h, k)

external_level : (a b c : Bool) → (not a && b) ≡ false → (not b && c) ≡ false → (not a && c) ≡ false
external_level true b c h k = refl
external_level false true c h k = grind (arith, h)
external_level false false c h k = k

level : (step : Step) → is_level step ≡ true → IsLevel (beats_by step)
level Preference l x y z h k = not_lt_along z.pref y.pref x.pref k h
level PathLength l x y z h k = not_lt_along x.hops y.hops z.hops h k
level Origin l x y z h k = not_lt_along (origin_rank x.origin) (origin_rank y.origin) (origin_rank z.origin) h k
level Med l x y z h k = grind (arith, l)
level External l x y z h k = external_level x.internal y.internal z.internal h k
level InteriorMetric l x y z h k = not_lt_along x.igp y.igp z.igp h k
level Identifier l x y z h k = not_lt_along x.id y.id z.id h k
level ClusterCount l x y z h k = not_lt_along x.clusters y.clusters z.clusters h k
level Address l x y z h k = not_lt_along x.addr y.addr z.addr h k

-- who beats a third beats one between, or that one beats the third
crosses_case : (beats : Candidate → Candidate → Bool) → IsLevel beats → (x y z : Candidate) (b c : Bool) → beats x y ≡ b → beats y z ≡ c
    → beats x z ≡ true → (beats x y ≡ true) ⊎ (beats y z ≡ true)
crosses_case beats l x y z true c e f t = inl e
crosses_case beats l x y z false true e f t = inr f
crosses_case beats l x y z false false e f t = absurd (let g : true ≡ false = sym t ∙ l x y z e f in cc)

pub crosses : (beats : Candidate → Candidate → Bool) → IsLevel beats → (x y z : Candidate) → beats x z ≡ true
    → (beats x y ≡ true) ⊎ (beats y z ≡ true)
crosses beats l x y z t = crosses_case beats l x y z (beats x y) (beats y z) refl refl t

-- ---- the first of two comparisons that tells them apart decides: by the first (p), or where that tells the other way round
-- nothing (q), by the second (r)
goes_by : (p q r : Bool) → (p || (not q && r)) ≡ true → (p ≡ true) ⊎ ((q ≡ false) × (r ≡ true))
goes_by true q r h = inl refl
goes_by false true r h = absurd (let e : false ≡ true = h in cc)
goes_by false false r h = inr (refl, h)

by_first : (p q r : Bool) → p ≡ true → (p || (not q && r)) ≡ true
by_first p q r h = rw h refl

by_second : (p q r : Bool) → q ≡ false → r ≡ true → (p || (not q && r)) ≡ true
by_second true q r h k = refl
by_second false q r h k = rw h k

stays_by : (p q r : Bool) → (p || (not q && r)) ≡ false → (p ≡ false) × ((q ≡ true) ⊎ (r ≡ false))
stays_by true q r h = absurd (let e : true ≡ false = h in cc)
stays_by false true r h = (refl, inl refl)
stays_by false false r h = (refl, inr h)

by_none : (p q r : Bool) → p ≡ false → (q ≡ true) ⊎ (r ≡ false) → (p || (not q && r)) ≡ false
by_none true q r e k = absurd (let f : true ≡ false = e in cc)
by_none false true r e k = refl
by_none false false r e (inl f) = absurd (let g : false ≡ true = f in cc)
by_none false false r e (inr f) = f

module _ (first next : Candidate → Candidate → Bool) (l : IsLevel first) where
  both_along : IsStrict first → IsStrict next → (x y z : Candidate)
      → (first x y ≡ true) ⊎ ((first y x ≡ false) × (next x y ≡ true))
      → (first y z ≡ true) ⊎ ((first z y ≡ false) × (next y z ≡ true))
      → (first x z || (not (first z x) && next x z)) ≡ true
  both_along s t x y z (inl a) (inl b) = by_first (first x z) (first z x) (next x z) (s.along x y z a b)
  both_along s t x y z (inl a) (inr b) =
      by_first (first x z) (first z x) (next x z)
      (elim (crosses first l x z y a) [ inl c ↦ c | inr c ↦ absurd (let e : true ≡ false = sym c ∙ b.0 in cc) ])
  both_along s t x y z (inr a) (inl b) =
      by_first (first x z) (first z x) (next x z)
      (elim (crosses first l y x z b) [ inl c ↦ absurd (let e : true ≡ false = sym c ∙ a.0 in cc) | inr c ↦ c ])
  both_along s t x y z (inr a) (inr b) =
      by_second (first x z) (first z x) (next x z) (l z y x b.0 a.0) (t.along x y z a.1 b.1)

  both_strict : IsStrict first → IsStrict next → IsStrict (λ x y. first x y || (not (first y x) && next x y))
  both_strict s t = record {
    never_itself = λ x. by_none (first x x) (first x x) (next x x) (s.never_itself x) (inr (t.never_itself x));
    along = λ x y z h k.
        both_along s t x y z (goes_by (first x y) (first y x) (next x y) h) (goes_by (first y z) (first z y) (next y z) k);
  }

  both_level_case : IsLevel next → (x y z : Candidate) → first x y ≡ false → first y z ≡ false
      → (first y x ≡ true) ⊎ (next x y ≡ false) → (first z y ≡ true) ⊎ (next y z ≡ false)
      → (first z x ≡ true) ⊎ (next x z ≡ false)
  both_level_case m x y z e f (inl a) b =
      elim (crosses first l y z x a) [ inl c ↦ absurd (let g : true ≡ false = sym c ∙ f in cc) | inr c ↦ inl c ]
  both_level_case m x y z e f (inr a) (inl b) =
      elim (crosses first l z x y b) [ inl c ↦ inl c | inr c ↦ absurd (let g : true ≡ false = sym c ∙ e in cc) ]
  both_level_case m x y z e f (inr a) (inr b) = inr (m x y z a b)

  both_level : IsLevel next → IsLevel (λ x y. first x y || (not (first y x) && next x y))
  both_level m x y z h k =
      let a = stays_by (first x y) (first y x) (next x y) h in
      let b = stays_by (first y z) (first z y) (next y z) k in
      by_none (first x z) (first z x) (next x z) (l x y z a.0 b.0) (both_level_case m x y z a.0 b.0 a.1 b.1)

-- ---- several steps as one comparison
-- each of them is by a key
abbrev pub AreLevel : List Step → Type 0
AreLevel [] = Unit {0}
AreLevel (step ∷ steps) = (is_level step ≡ true) × AreLevel steps

pub first_are_level : AreLevel first_steps
first_are_level = (refl, (refl, (refl, tt)))

pub last_are_level : AreLevel last_steps
last_are_level = (refl, (refl, (refl, (refl, (refl, tt)))))

pub goes_strict : (steps : List Step) → AreLevel steps → IsStrict (goes_before steps)
goes_strict [] a = record { never_itself = λ x. refl; along = λ x y z h k. h }
goes_strict (step ∷ steps) a =
    both_strict (beats_by step) (goes_before steps) (level step a.0) (strict step) (goes_strict steps a.1)

pub goes_level : (steps : List Step) → AreLevel steps → IsLevel (goes_before steps)
goes_level [] a x y z h k = h
goes_level (step ∷ steps) a x y z h k = both_level (beats_by step) (goes_before steps) (level step a.0) (goes_level steps a.1) x y z h k

-- ---- what one that leads leaves
pub none_of : {X : Type 0} → (p : X → Bool) (xs : List X) → ((u : X) → Has xs u → p u ≡ false) → list_any p xs ≡ false
none_of p [] h = refl
none_of p (x ∷ xs) h = or_false (p x) (list_any p xs) (h x (inl refl)) (none_of p xs (λ u k. h u (inr k)))

pub one_of : {X : Type 0} → (p : X → Bool) (xs : List X) (u : X) (b : Bool) → list_any p xs ≡ b → Has xs u → p u ≡ true → b ≡ true
one_of p xs u true e h t = refl
one_of p xs u false e h t = sym (fails_all p xs u e h) ∙ t

pub same_test : {X : Type 0} → (p q : X → Bool) (xs : List X) → ((u : X) → Has xs u → p u ≡ q u) → filter p xs ≡ filter q xs
same_test p q [] h = refl
same_test p q (x ∷ xs) h = rw (h x (inl refl)) (rw (same_test p q xs (λ u k. h u (inr k))) refl)

pub all_pass : {X : Type 0} → (p : X → Bool) (xs : List X) → ((u : X) → p u ≡ true) → filter p xs ≡ xs
all_pass p [] h = refl
all_pass p (x ∷ xs) h = rw (h x) (rw (all_pass p xs h) refl)

filter_both_case : {X : Type 0} → (p : X → Bool) (x : X) (ys zs : List X) (b : Bool) → filter p ys ≡ zs
    → filter p (cond b (x ∷ ys) ys) ≡ cond (b && p x) (x ∷ zs) zs
filter_both_case p x ys zs true e = rw e refl
filter_both_case p x ys zs false e = e

-- those that pass one test after the other pass both
pub filter_both : {X : Type 0} → (p q : X → Bool) (xs : List X) → filter p (filter q xs) ≡ filter (λ x. q x && p x) xs
filter_both p q [] = refl
filter_both p q (x ∷ xs) = filter_both_case p x (filter q xs) (filter (λ u. q u && p u) xs) (q x) (filter_both p q xs)

by_the_leader : (step : Step) → is_level step ≡ true → (list : List Route) (u v : Route) → Has list u
    → ((w : Route) → Has list w → beats_by step (candidate_of w) (candidate_of u) ≡ false)
    → (b : Bool) → beats_by step (candidate_of u) (candidate_of v) ≡ b → b ≡ list_any (λ one. beats_by step (candidate_of one) (candidate_of v)) list
by_the_leader step l list u v h f true e =
    sym (one_of (λ one. beats_by step (candidate_of one) (candidate_of v)) list u
    (list_any (λ one. beats_by step (candidate_of one) (candidate_of v)) list) refl h e)
by_the_leader step l list u v h f false e =
    sym (none_of (λ one. beats_by step (candidate_of one) (candidate_of v)) list
    (λ w k. level step l (candidate_of w) (candidate_of u) (candidate_of v) (f w k) e))

-- a step keeps whom one that leads in it does not beat
kept_of_leader : (step : Step) → is_level step ≡ true → (list : List Route) (u : Route) → Has list u
    → ((w : Route) → Has list w → beats_by step (candidate_of w) (candidate_of u) ≡ false)
    → kept_by step list ≡ filter (λ v. not (beats_by step (candidate_of u) (candidate_of v))) list
kept_of_leader step l list u h f =
    same_test (λ other. not (list_any (λ one. beats_by step (candidate_of one) (candidate_of other)) list))
    (λ v. not (beats_by step (candidate_of u) (candidate_of v))) list
    (λ v k. ap not (sym (by_the_leader step l list u v h f (beats_by step (candidate_of u) (candidate_of v)) refl)))

other_of : (q r : Bool) → not q ≡ true → (q ≡ true) ⊎ (r ≡ false) → r ≡ false
other_of q r n (inl e) = absurd (let f : true ≡ false = sym e ∙ not_true q n in cc)
other_of q r n (inr e) = e

not_either : (p q r : Bool) → q ≡ false → (not p && not r) ≡ not (p || (not q && r))
not_either true q r e = refl
not_either false q r e = rw e refl

-- steps, each by a key, keep whom one that leads in them does not go before
pub left_of_leader : (steps : List Step) → AreLevel steps → (list : List Route) (u : Route) → Has list u
    → ((w : Route) → Has list w → goes_before steps (candidate_of w) (candidate_of u) ≡ false)
    → left_by steps list ≡ filter (λ v. not (goes_before steps (candidate_of u) (candidate_of v))) list
left_of_leader [] a list u h f = sym (all_pass (λ v. true) list (λ v. refl))
left_of_leader (step ∷ steps) a list u h f =
    let falls = λ (w : Route) (k : Has list w).
    stays_by (beats_by step (candidate_of w) (candidate_of u)) (beats_by step (candidate_of u) (candidate_of w))
    (goes_before steps (candidate_of w) (candidate_of u)) (f w k) in
    let meets : Route → Bool = λ v. not (beats_by step (candidate_of u) (candidate_of v)) in
    let meets_rest : Route → Bool = λ v. not (goes_before steps (candidate_of u) (candidate_of v)) in
    ap (left_by steps) (kept_of_leader step a.0 list u h (λ w k. (falls w k).0))
    ∙ left_of_leader steps a.1 (filter meets list) u
    (passes meets list u h (ap not ((strict step).never_itself (candidate_of u))))
    (λ w k.
    let p = passed meets list w k in
    other_of (beats_by step (candidate_of u) (candidate_of w)) (goes_before steps (candidate_of w) (candidate_of u)) p.1 (falls w p.0).1)
    ∙ filter_both meets_rest meets list
    ∙ same_test (λ v. meets v && meets_rest v) (λ v. not (goes_before (step ∷ steps) (candidate_of u) (candidate_of v))) list
    (λ w k.
    not_either (beats_by step (candidate_of u) (candidate_of w)) (beats_by step (candidate_of w) (candidate_of u))
    (goes_before steps (candidate_of u) (candidate_of w)) (falls w k).0)
