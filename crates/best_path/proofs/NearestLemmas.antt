-- The two passes: who leads in the front of the list, and who is the best of those that are left in it.
use Rattle.std.proofs.Common.{◌≡◌, ℕ, ◌+◌, ◌<◌, ◌≤◌, ◌⊎◌, Bool, true, false, not, ◌&&◌, cond, List, [], ◌∷◌, ◌++◌, length, map, take, slice_index_or, Option, Some, None, MatchOption, refl, sym, ◌∙◌, ap, subst, arith, inl, inr}
use Rattle.std.specs.Prelude.{filter}
use Rattle.std.specs.List.{list_any}
use Rattle.std.specs.Option.{option_map_or}
use Rattle.std.proofs.lemmas.List.{take_all, take_more, take-map}
use Rattle.bgp_attr.specs.Routes.{Route}
use Rattle.best_path.specs.declared.candidate.Candidate.{Candidate}
use Rattle.best_path.specs.declared.step.Step.TheVariants.{Med}
use Rattle.best_path.specs.Keys.{is_local, candidate_of}
use Rattle.best_path.specs.Steps.{beats_by, kept_by, left_by_all, IsPlaceOfBest}
use Rattle.best_path.specs.Leaders.{first_steps, last_steps, goes_before, Leads, keeps_up, is_taken_out, is_left, has_local}
use Rattle.best_path.specs.Places.{IsPlaceOfFirst}
use Rattle.best_path.proofs.PlaceLemmas.{as_many, made_of, filter_first_of, list_any-map}
use Rattle.best_path.proofs.StepLemmas.{Has, left_true, right_true, passes, passed, left_by}
use Rattle.best_path.proofs.LawLemmas.{has_contains, contains_has, fails_all, found}
use Rattle.best_path.proofs.PickLemmas.{picked_local}
use Rattle.best_path.proofs.LeaderLemmas.{crosses, first_are_level, last_are_level, goes_strict, goes_level, none_of, one_of, same_test, filter_both, left_of_leader}

-- ---- elements
has_last : {X : Type 0} → (xs : List X) (x u : X) → Has (xs ++ x ∷ []) u → Has xs u ⊎ (x ≡ u)
has_last [] x u (inl e) = inr e
has_last [] x u (inr h) = absurd h
has_last (y ∷ ys) x u (inl e) = inl (inl e)
has_last (y ∷ ys) x u (inr h) = elim (has_last ys x u h) [ inl k ↦ inl (inr k) | inr k ↦ inr k ]

has_front : {X : Type 0} → (xs : List X) (i : ℕ) (x u : X) → i < length xs → x ≡ slice_index_or xs i x → Has (take (i + 1) xs) u
    → Has (take i xs) u ⊎ (x ≡ u)
has_front {X = X} xs i x u h e k =
    let P : List X → Type 0 = λ l. Has l u in
    has_last (take i xs) x u (subst P (take_more xs i x h ∙ ap (λ v. take i xs ++ v ∷ []) (sym e)) k)

has_map : {X Y : Type 0} → (f : X → Y) (xs : List X) (u : X) → Has xs u → Has (map f xs) (f u)
has_map f [] u h = absurd h
has_map f (x ∷ xs) u (inl e) = inl (ap f e)
has_map f (x ∷ xs) u (inr h) = inr (has_map f xs u h)

has_made : {X Y : Type 0} → (f : X → Y) (xs : List X) (y : Y) → Has (map f xs) y → (x : X) × (Has xs x × (f x ≡ y))
has_made f [] y h = absurd h
has_made f (x ∷ xs) y (inl e) = (x, (inl refl, e))
has_made f (x ∷ xs) y (inr h) = let m = has_made f xs y h in (m.0, (inr m.1.0, m.1.1))

has_all : {X : Type 0} → (xs : List X) (n : ℕ) (u : X) → length xs ≤ n → Has xs u → Has (take n xs) u
has_all {X = X} xs n u h k = let P : List X → Type 0 = λ l. Has l u in subst P (sym (take_all n xs h)) k

-- ---- the first pass
-- one of the list, and no one in its front goes before it in the first steps
pub record LeadsFront (xs : List Candidate) (i : ℕ) (lead : Candidate) : Type 0 where
  pub there : Has xs lead
  pub ahead : (v : Candidate) → Has (take i xs) v → goes_before first_steps v lead ≡ false

pub front_begins : (xs : List Candidate) (lead : Candidate) → 0 < length xs → lead ≡ slice_index_or xs 0 lead → LeadsFront xs 0 lead
front_begins xs lead h e = record { there = contains_has xs lead 0 h (sym e); ahead = λ v k. absurd k }

module _ (xs : List Candidate) (i : ℕ) (x : Candidate) (h : i < length xs) (e : x ≡ slice_index_or xs i x) (lead : Candidate)
    (f : LeadsFront xs i lead) where
  led_case : (v : Candidate) (b : Bool) → goes_before first_steps v x ≡ b → Has (take i xs) v → goes_before first_steps x lead ≡ true → b ≡ false
  led_case v true q m t =
      sym ((goes_strict first_steps first_are_level).along v x lead q t) ∙ f.ahead v m
  led_case v false q m t = refl

  pub front_led : goes_before first_steps x lead ≡ true → LeadsFront xs (i + 1) x
  front_led t = record {
    there = contains_has xs x i h (sym e);
    ahead = λ v k.
        elim (has_front xs i x v h e k) [
          | inl m ↦ led_case v (goes_before first_steps v x) refl m t
          | inr q ↦ ap (λ w. goes_before first_steps w x) (sym q) ∙ (goes_strict first_steps first_are_level).never_itself x
        ];
  }

  pub front_stays : goes_before first_steps x lead ≡ false → LeadsFront xs (i + 1) lead
  front_stays t = record {
    there = f.there;
    ahead = λ v k.
        elim (has_front xs i x v h e k) [
          | inl m ↦ f.ahead v m
          | inr q ↦ ap (λ w. goes_before first_steps w lead) (sym q) ∙ t
        ];
  }

-- so it leads
pub front_leads : (xs : List Candidate) (n : ℕ) (lead : Candidate) → length xs ≤ n → LeadsFront xs n lead → Leads first_steps xs lead
front_leads xs n lead h f =
    (has_contains xs lead f.there, none_of (λ one. goes_before first_steps one lead) xs (λ v k. f.ahead v (has_all xs n v h k)))

-- ---- step 4 of one
-- no one in the front of those that keep up takes it out
abbrev pub NoneTakesOut : List Candidate → ℕ → Candidate → Candidate → Type 0
NoneTakesOut xs i lead other = (v : Candidate) → Has (take i xs) v → keeps_up lead v ≡ true → beats_by Med v other ≡ false

module _ (xs : List Candidate) (lead other : Candidate) where
  pub none_takes_more : (i : ℕ) (x : Candidate) → i < length xs → x ≡ slice_index_or xs i x → NoneTakesOut xs i lead other
      → (keeps_up lead x ≡ true → beats_by Med x other ≡ false) → NoneTakesOut xs (i + 1) lead other
  none_takes_more i x h e f t = λ v k b.
      elim (has_front xs i x v h e k) [
        | inl m ↦ f v m b
        | inr q ↦ ap (λ w. beats_by Med w other) (sym q) ∙ t (ap (keeps_up lead) q ∙ b)
      ]

  pub none_takes_out : (n : ℕ) → length xs ≤ n → NoneTakesOut xs n lead other → is_taken_out xs lead other ≡ false
  none_takes_out n h f =
      none_of (λ one. beats_by Med one other) (filter (keeps_up lead) xs)
      (λ v k. let p = passed (keeps_up lead) xs v k in f v (has_all xs n v h p.0) p.1)

  pub one_takes_out : (i : ℕ) (x : Candidate) → i < length xs → x ≡ slice_index_or xs i x → keeps_up lead x ≡ true
      → beats_by Med x other ≡ true → is_taken_out xs lead other ≡ true
  one_takes_out i x h e b t =
      one_of (λ one. beats_by Med one other) (filter (keeps_up lead) xs) x (is_taken_out xs lead other) refl
      (passes (keeps_up lead) xs x (contains_has xs x i h (sym e)) b) t

-- ---- the second pass
-- the first one left in the front that no one left in it goes before in the last steps
pub record IsNearest (left : Candidate → Bool) (xs : List Candidate) (i place : ℕ) (u : Candidate) : Type 0 where
  pub within : place < length xs
  pub at : u ≡ slice_index_or xs place u
  pub is_one : left u ≡ true
  pub unbeaten : (v : Candidate) → Has (take i xs) v → left v ≡ true → goes_before last_steps v u ≡ false
  pub first : (v : Candidate) → Has (take place xs) v → left v ≡ true → goes_before last_steps u v ≡ true

-- there is none where none is left
abbrev pub NearestFront : (Candidate → Bool) → List Candidate → ℕ → ℕ → Option Candidate → Type 0
NearestFront left xs i place best =
    MatchOption best ((v : Candidate) → Has (take i xs) v → left v ≡ false) (IsNearest left xs i place)

neither : (b : Bool) → b ≡ true → b ≡ false → ⊥
neither b t f = let e : true ≡ false = sym t ∙ f in cc

or_last : (b c : Bool) → b ≡ false → (b ≡ true) ⊎ (c ≡ true) → c ≡ true
or_last b c f (inl e) = absurd (neither b e f)
or_last b c f (inr e) = e

alone : (b : Bool) → (b && true) ≡ false → b ≡ false
alone true f = f
alone false f = refl

not_both : (b c : Bool) → (b && c) ≡ false → b ≡ true → c ≡ false
not_both true c f t = f
not_both false c f t = absurd (neither false t refl)

module _ (left : Candidate → Bool) (xs : List Candidate) (i : ℕ) (x : Candidate) (h : i < length xs) (e : x ≡ slice_index_or xs i x) where
  itself_last : (v : Candidate) → x ≡ v → goes_before last_steps v x ≡ false
  itself_last v q = ap (λ w. goes_before last_steps w x) (sym q) ∙ (goes_strict last_steps last_are_level).never_itself x

  led_last : (u v : Candidate) (b : Bool) → goes_before last_steps v x ≡ b → goes_before last_steps x u ≡ true → goes_before last_steps v u ≡ false
      → b ≡ false
  led_last u v true q t g = sym ((goes_strict last_steps last_are_level).along v x u q t) ∙ g
  led_last u v false q t g = refl

  -- it is the first one left, or goes before the best one so far
  pub nearest_taken : (place : ℕ) (old : Option Candidate) → NearestFront left xs i place old
      → (left x && option_map_or (λ other. goes_before last_steps x other) old true) ≡ true → IsNearest left xs (i + 1) i x
  nearest_taken place None f t = record {
    within = h;
    at = e;
    is_one = left_true (left x) true t;
    unbeaten = λ v k b.
        elim (has_front xs i x v h e k) [ inl m ↦ absurd (neither (left v) b (f v m)) | inr q ↦ itself_last v q ];
    first = λ v k b. absurd (neither (left v) b (f v k));
  }
  nearest_taken place (Some u) f t =
      let goes : goes_before last_steps x u ≡ true = right_true (left x) (goes_before last_steps x u) t in
      record {
        within = h;
        at = e;
        is_one = left_true (left x) (goes_before last_steps x u) t;
        unbeaten = λ v k b.
            elim (has_front xs i x v h e k) [
              | inl m ↦ led_last u v (goes_before last_steps v x) refl goes (f.unbeaten v m b)
              | inr q ↦ itself_last v q
            ];
        first = λ v k b.
            or_last (goes_before last_steps v u) (goes_before last_steps x v) (f.unbeaten v k b)
            (elim (crosses (goes_before last_steps) (goes_level last_steps last_are_level) x v u goes) [ inl c ↦ inr c | inr c ↦ inl c ]);
      }

  -- it is not left, or does not go before the best one so far
  pub nearest_stays : (place : ℕ) (old : Option Candidate) → NearestFront left xs i place old
      → (left x && option_map_or (λ other. goes_before last_steps x other) old true) ≡ false → NearestFront left xs (i + 1) place old
  nearest_stays place None f t = λ v k.
      elim (has_front xs i x v h e k) [ inl m ↦ f v m | inr q ↦ ap left (sym q) ∙ alone (left x) t ]
  nearest_stays place (Some u) f t = record {
    within = f.within;
    at = f.at;
    is_one = f.is_one;
    unbeaten = λ v k b.
        elim (has_front xs i x v h e k) [
          | inl m ↦ f.unbeaten v m b
          | inr q ↦ ap (λ w. goes_before last_steps w u) (sym q) ∙ not_both (left x) (goes_before last_steps x u) t (ap left q ∙ b)
        ];
    first = f.first;
  }

-- ---- what is left
filter-map_case : {X Y : Type 0} → (f : X → Y) (x : X) (ys : List Y) (zs : List X) (b : Bool) → ys ≡ map f zs
    → cond b (f x ∷ ys) ys ≡ map f (cond b (x ∷ zs) zs)
filter-map_case f x ys zs true e = ap (λ l. f x ∷ l) e
filter-map_case f x ys zs false e = e

filter-map : {X Y : Type 0} → (p : Y → Bool) (f : X → Y) (xs : List X) → filter p (map f xs) ≡ map f (filter (λ x. p (f x)) xs)
filter-map p f [] = refl
filter-map p f (x ∷ xs) = filter-map_case f x (filter p (map f xs)) (filter (λ u. p (f u)) xs) (p (f x)) (filter-map p f xs)

none_pass : {X : Type 0} → (p : X → Bool) (xs : List X) → ((u : X) → Has xs u → p u ≡ false) → filter p xs ≡ []
none_pass p [] h = refl
none_pass p (x ∷ xs) h = rw (h x (inl refl)) (none_pass p xs (λ u k. h u (inr k)))

passed_by : (b c : Bool) → (b ≡ true → c ≡ true) → (b && not c) ≡ false
passed_by true c f = ap not (f refl)
passed_by false c f = refl

is_and_not : (b c : Bool) → b ≡ true → c ≡ false → (b && not c) ≡ true
is_and_not b c h k = rw h (rw k refl)

taken_out_of : (routes : List Route) (lead : Candidate) (v : Route)
    → is_taken_out (map candidate_of routes) lead (candidate_of v)
    ≡ list_any (λ one. beats_by Med (candidate_of one) (candidate_of v)) (filter (λ r. keeps_up lead (candidate_of r)) routes)
taken_out_of routes lead v =
    ap (list_any (λ one. beats_by Med one (candidate_of v))) (filter-map (keeps_up lead) candidate_of routes)
    ∙ list_any-map (λ one. beats_by Med one (candidate_of v)) candidate_of (filter (λ r. keeps_up lead (candidate_of r)) routes)

module _ (routes : List Route) (candidates : List Candidate) (is : map candidate_of routes ≡ candidates) (lead : Candidate)
    (leads : Leads first_steps candidates lead) where
  -- the route that leads
  leader : (u : Route) × (Has routes u × (candidate_of u ≡ lead))
  leader =
      let P : List Candidate → Type 0 = λ l. Has l lead in
      has_made candidate_of routes lead (subst P (sym is) (contains_has candidates lead leads.0.0 leads.0.1 leads.0.2))

  made_has : (v : Route) → Has routes v → Has candidates (candidate_of v)
  made_has v k = let P : List Candidate → Type 0 = λ l. Has l (candidate_of v) in subst P is (has_map candidate_of routes v k)

  -- four steps leave those that are left
  four_steps : kept_by Med (left_by first_steps routes) ≡ filter (λ v. is_left candidates lead (candidate_of v)) routes
  four_steps =
      let three : left_by first_steps routes ≡ filter (λ v. keeps_up lead (candidate_of v)) routes =
      left_of_leader first_steps first_are_level routes leader.0 leader.1.0
      (λ v k. ap (goes_before first_steps (candidate_of v)) leader.1.1
      ∙ fails_all (λ one. goes_before first_steps one lead) candidates (candidate_of v) leads.1 (made_has v k))
      ∙ ap (λ u. filter (λ v. keeps_up u (candidate_of v)) routes) leader.1.1 in
      ap (kept_by Med) three
      ∙ filter_both
      (λ other. not (list_any (λ one. beats_by Med (candidate_of one) (candidate_of other)) (filter (λ v. keeps_up lead (candidate_of v)) routes)))
      (λ v. keeps_up lead (candidate_of v)) routes
      ∙ same_test
      (λ v. keeps_up lead (candidate_of v) && not (list_any (λ one. beats_by Med (candidate_of one) (candidate_of v)) (filter (λ r. keeps_up lead (candidate_of r)) routes)))
      (λ v. is_left candidates lead (candidate_of v)) routes
      (λ v k. ap (λ b. keeps_up lead (candidate_of v) && not b)
      (sym (taken_out_of routes lead v) ∙ ap (λ l. is_taken_out l lead (candidate_of v)) is))

  in_front : (v : Route) (place : ℕ) → Has (take place routes) v → Has (take place candidates) (candidate_of v)
  in_front v place k =
      let P : List Candidate → Type 0 = λ l. Has l (candidate_of v) in
      subst P (sym (take-map candidate_of place routes) ∙ ap (take place) is) (has_map candidate_of (take place routes) v k)

  -- where none is left in the whole list
  pub none_left : (n : ℕ) → length candidates ≤ n → ((v : Candidate) → Has (take n candidates) v → is_left candidates lead v ≡ false)
      → left_by_all routes ≡ []
  none_left n h f =
      ap (left_by last_steps)
      (four_steps ∙ none_pass (λ v. is_left candidates lead (candidate_of v)) routes
      (λ v k. f (candidate_of v) (has_all candidates n (candidate_of v) h (made_has v k))))

  -- the nearest one of the whole list
  pub nearest_is_first : (n place : ℕ) (u : Candidate) → length candidates ≤ n → IsNearest (is_left candidates lead) candidates n place u
      → IsPlaceOfFirst routes (left_by_all routes) (Some place)
  nearest_is_first n place u h f =
      let w = made_of candidate_of routes candidates is place u f.within f.at in
      let left : Route → Bool = λ v. is_left candidates lead (candidate_of v) in
      let has : Has (filter left routes) w.0 =
      passes left routes w.0
      (contains_has routes w.0 place (omega (arith, as_many candidate_of routes candidates is, f.within)) (sym w.1.0))
      (ap (is_left candidates lead) (sym w.1.1) ∙ f.is_one) in
      let unbeaten = λ (v : Route) (k : Has (filter left routes) v).
      (let p = passed left routes v k in
      ap (goes_before last_steps (candidate_of v)) (sym w.1.1)
      ∙ f.unbeaten (candidate_of v) (has_all candidates n (candidate_of v) h (made_has v p.0)) p.1) in
      let all : left_by_all routes ≡ filter (λ v. left v && not (goes_before last_steps u (candidate_of v))) routes =
      ap (left_by last_steps) four_steps
      ∙ left_of_leader last_steps last_are_level (filter left routes) w.0 has unbeaten
      ∙ ap (λ b. filter (λ v. not (goes_before last_steps b (candidate_of v))) (filter left routes)) (sym w.1.1)
      ∙ filter_both (λ v. not (goes_before last_steps u (candidate_of v))) left routes in
      let none : filter (λ v. left v && not (goes_before last_steps u (candidate_of v))) (take place routes) ≡ [] =
      none_pass (λ v. left v && not (goes_before last_steps u (candidate_of v))) (take place routes)
      (λ v k. passed_by (left v) (goes_before last_steps u (candidate_of v)) (λ t. f.first (candidate_of v) (in_front v place k) t)) in
      subst (λ l. IsPlaceOfFirst routes l (Some place)) (sym all)
      (filter_first_of candidate_of routes candidates is (λ c. is_left candidates lead c && not (goes_before last_steps u c)) place u
      f.within f.at none (is_and_not (is_left candidates lead u) (goes_before last_steps u u) f.is_one ((goes_strict last_steps last_are_level).never_itself u)))

-- ---- where one is local
pub local_is_best : (routes : List Route) (candidates : List Candidate) → map candidate_of routes ≡ candidates → has_local candidates ≡ true
    → (place : Option ℕ) → IsPlaceOfFirst routes (filter is_local routes) place → IsPlaceOfBest routes place
local_is_best routes candidates is t None n =
    let some : list_any is_local routes ≡ true = sym (list_any-map (λ one. one.local) candidate_of routes) ∙ ap has_local is ∙ t in
    let one = found is_local routes some in
    let P : List Route → Type 0 = λ l. Has l one.0 in
    absurd (subst P n (passes is_local routes one.0 one.1.0 one.1.1))
local_is_best routes candidates is t (Some place) f = picked_local routes place f
