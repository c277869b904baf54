-- The route of least distance of a list, taken one route after the other.
use Rattle.std.proofs.Common.{◌≡◌, ℕ, ◌≤◌, Bool, true, false, cond, not, ◌||◌, nat_lt, List, [], ◌∷◌, Option, Some, None, refl, sym, ap, ◌∙◌, arith}
use Rattle.std.proofs.lemmas.Bool.{ltb-false, ltb-true, le-ltb, lt-ltb}
use Rattle.std.specs.List.{find, list_any, cons_option}
use Rattle.std.specs.FinMap as tables
use Rattle.link_change.specs.Rows.{Rows}
use Rattle.rib_route.specs.declared.Proto.{Proto}
use Rattle.rib_route.specs.Rows.{Interior}
use Rattle.live_state.specs.Decided.{distance_of, least_of, least_rows}
use Rattle.live_state.specs.Lives.{Interiors}

-- the one of lesser distance of two, the first where both are equal
abbrev pub lesser : Option Interior → Option Interior → Option Interior
lesser None right = right
lesser (Some a) None = Some a
lesser (Some a) (Some b) = cond (nat_lt (distance_of b) (distance_of a)) (Some b) (Some a)

abbrev pub nearest : List Interior → Option Interior
nearest [] = None
nearest (x ∷ xs) = lesser (Some x) (nearest xs)

-- whether a route of the list has a distance below this
abbrev below : ℕ → List Interior → Bool
below n xs = list_any (λ other. nat_lt (distance_of other) n) xs

abbrev unbeaten : List Interior → Interior → Bool
unbeaten xs r = not (below (distance_of r) xs)

-- ---- tests
or_true : (a : Bool) → (a || true) ≡ true
or_true true = refl
or_true false = refl

both_false : (a b : Bool) → a ≡ false → b ≡ false → (a || b) ≡ false
both_false a b e f = ap (λ (t : Bool). t || b) e ∙ f

pub first_false : (a b : Bool) → (a || b) ≡ false → a ≡ false
first_false true b e = e
first_false false b e = refl

pub second_false : (a b : Bool) → (a || b) ≡ false → b ≡ false
second_false true b e = absurd (let f : true ≡ false = e in cc)
second_false false b e = e

not_below : (n m : ℕ) → nat_lt n m ≡ true → nat_lt m n ≡ false
not_below n m e = let l = ltb-true n m e in le-ltb m n (omega (arith, l))

none_below : (n m : ℕ) (xs : List Interior) → m ≤ n → below n xs ≡ false → below m xs ≡ false
none_below n m [] less none = refl
none_below n m (x ∷ xs) less none =
    let here = ltb-false (distance_of x) n (first_false (nat_lt (distance_of x) n) (below n xs) none) in
    both_false (nat_lt (distance_of x) m) (below m xs) (le-ltb (distance_of x) m (omega (arith, here, less)))
    (none_below n m xs less (second_false (nat_lt (distance_of x) n) (below n xs) none))

-- ---- what is found
found_any : (p q : Interior → Bool) (xs : List Interior) (b : Interior) → find p xs ≡ Some b → q b ≡ true → list_any q xs ≡ true
found_any p q [] b found is = absurd (let e : None ≡ Some b = found in cc)
found_any p q (x ∷ xs) b found is = by_test (p x) found (λ e. found_any p q xs b e is)
  where
    by_test : (t : Bool) → cond t (Some x) (find p xs) ≡ Some b → (find p xs ≡ Some b → list_any q xs ≡ true) → (q x || list_any q xs) ≡ true
    by_test true e later = let same : x ≡ b = cc in ap (λ (t : Bool). t || list_any q xs) (ap q same ∙ is)
    by_test false e later = ap (λ (t : Bool). q x || t) (later e) ∙ or_true (q x)

found_by : (p q : Interior → Bool) (xs : List Interior) (b : Interior) → ((r : Interior) → p r ≡ false → q r ≡ false) → q b ≡ true → find p xs ≡ Some b → find q xs ≡ Some b
found_by p q [] b less is found = found
found_by p q (x ∷ xs) b less is found = by_test (p x) refl found (λ e. found_by p q xs b less is e)
  where
    by_test : (t : Bool) → p x ≡ t → cond t (Some x) (find p xs) ≡ Some b → (find p xs ≡ Some b → find q xs ≡ Some b) → cond (q x) (Some x) (find q xs) ≡ Some b
    by_test true at e later = let same : x ≡ b = cc in ap (λ (t : Bool). cond t (Some x) (find q xs)) (ap q same ∙ is) ∙ e
    by_test false at e later = ap (λ (t : Bool). cond t (Some x) (find q xs)) (less x at) ∙ later e

-- ---- the least
-- of a list that isn't empty: both ways give this one, and none is below it
pub record Found (xs : List Interior) : Type 0 where
  pub one : Interior
  pub nearest_is : nearest xs ≡ Some one
  pub least_is : least_of xs ≡ Some one
  pub none : below (distance_of one) xs ≡ false

not_false : (t : Bool) → t ≡ false → not t ≡ true
not_false t e = ap not e

not_true : (t : Bool) → t ≡ true → not t ≡ false
not_true t e = ap not e

-- a route in front of others that is least itself
found_first : (x : Interior) (xs : List Interior) → nearest (x ∷ xs) ≡ Some x → below (distance_of x) xs ≡ false → Found (x ∷ xs)
found_first x xs is none =
    let all : below (distance_of x) (x ∷ xs) ≡ false = both_false (nat_lt (distance_of x) (distance_of x)) (below (distance_of x) xs) (le-ltb (distance_of x) (distance_of x) (omega arith)) none in
    record {
      one = x;
      nearest_is = is;
      least_is = ap (λ (t : Bool). cond t (Some x) (find (unbeaten (x ∷ xs)) xs)) (not_false (below (distance_of x) (x ∷ xs)) all);
      none = all;
    }

-- one in front of others of which one is less
found_later : (x : Interior) (xs : List Interior) → (f : Found xs) → nat_lt (distance_of f.one) (distance_of x) ≡ true → Found (x ∷ xs)
found_later x xs f less =
    let b : Interior = f.one in
    let some : below (distance_of x) (x ∷ xs) ≡ true =
    ap (λ (t : Bool). nat_lt (distance_of x) (distance_of x) || t) (found_any (unbeaten xs) (λ other. nat_lt (distance_of other) (distance_of x)) xs b f.least_is less)
    ∙ or_true (nat_lt (distance_of x) (distance_of x)) in
    let all : below (distance_of b) (x ∷ xs) ≡ false = both_false (nat_lt (distance_of x) (distance_of b)) (below (distance_of b) xs) (not_below (distance_of b) (distance_of x) less) f.none in
    record {
      one = b;
      nearest_is = ap (lesser (Some x)) f.nearest_is ∙ ap (λ (t : Bool). cond t (Some b) (Some x)) less;
      least_is = ap (λ (t : Bool). cond t (Some x) (find (unbeaten (x ∷ xs)) xs)) (not_true (below (distance_of x) (x ∷ xs)) some)
          ∙ found_by (unbeaten xs) (unbeaten (x ∷ xs)) xs b (λ r e. beaten_more r (below (distance_of r) xs) e) (not_false (below (distance_of b) (x ∷ xs)) all) f.least_is;
      none = all;
    }
  where
    beaten_more : (r : Interior) (t : Bool) → not t ≡ false → not (nat_lt (distance_of x) (distance_of r) || t) ≡ false
    beaten_more r true e = ap not (or_true (nat_lt (distance_of x) (distance_of r)))
    beaten_more r false e = absurd (let f : true ≡ false = e in cc)

pub found : (x : Interior) (xs : List Interior) → Found (x ∷ xs)
found x [] = found_first x [] refl refl
found x (y ∷ ys) = let f = found y ys in by_test f (nat_lt (distance_of f.one) (distance_of x)) refl
  where
    by_test : (f : Found (y ∷ ys)) (t : Bool) → nat_lt (distance_of f.one) (distance_of x) ≡ t → Found (x ∷ y ∷ ys)
    by_test f true less = found_later x (y ∷ ys) f less
    by_test f false less = found_first x (y ∷ ys) (ap (lesser (Some x)) f.nearest_is ∙ ap (λ (t : Bool). cond t (Some f.one) (Some x)) less)
        (none_below (distance_of f.one) (distance_of x) (y ∷ ys) (ltb-false (distance_of f.one) (distance_of x) less) f.none)

pub least_is_nearest : (xs : List Interior) → least_of xs ≡ nearest xs
least_is_nearest [] = refl
least_is_nearest (x ∷ xs) = let f = found x xs in f.least_is ∙ sym f.nearest_is

-- ---- of some that may be there
lesser_none : (a : Option Interior) → lesser a None ≡ a
lesser_none None = refl
lesser_none (Some x) = refl

nearest_with : (a : Option Interior) (xs : List Interior) → nearest (cons_option a xs) ≡ lesser a (nearest xs)
nearest_with None xs = refl
nearest_with (Some x) xs = refl

least_of_two : (a b : Option Interior) → least_of (cons_option a (cons_option b [])) ≡ lesser a b
least_of_two a b =
    least_is_nearest (cons_option a (cons_option b []))
    ∙ nearest_with a (cons_option b []) ∙ ap (lesser a) (nearest_with b [] ∙ lesser_none b)

lesser_joins : (a b c : Option Interior) → lesser a (lesser b c) ≡ lesser (lesser a b) c
lesser_joins None b c = refl
lesser_joins (Some x) None c = refl
lesser_joins (Some x) (Some y) None = sym (lesser_none (lesser (Some x) (Some y)))
lesser_joins (Some x) (Some y) (Some z) = by_tests (nat_lt (distance_of z) (distance_of y)) (nat_lt (distance_of y) (distance_of x)) refl refl
  where
    by_tests : (zy yx : Bool) → nat_lt (distance_of z) (distance_of y) ≡ zy → nat_lt (distance_of y) (distance_of x) ≡ yx
        → lesser (Some x) (cond zy (Some z) (Some y)) ≡ lesser (cond yx (Some y) (Some x)) (Some z)
    by_tests true true e f =
        let first = ltb-true (distance_of z) (distance_of y) e in
        let last = ltb-true (distance_of y) (distance_of x) f in
        ap (λ (t : Bool). cond t (Some z) (Some x)) (lt-ltb (distance_of z) (distance_of x) (omega (arith, first, last))) ∙ sym (ap (λ (t : Bool). cond t (Some z) (Some y)) e)
    by_tests true false e f = refl
    by_tests false true e f = ap (λ (t : Bool). cond t (Some y) (Some x)) f ∙ sym (ap (λ (t : Bool). cond t (Some z) (Some y)) e)
    by_tests false false e f =
        let first = ltb-false (distance_of z) (distance_of y) e in
        let last = ltb-false (distance_of y) (distance_of x) f in
        ap (λ (t : Bool). cond t (Some y) (Some x)) f ∙ sym (ap (λ (t : Bool). cond t (Some z) (Some x)) (le-ltb (distance_of z) (distance_of x) (omega (arith, first, last))))

least_of_four : (a b c d : Option Interior) → least_of (cons_option a (cons_option b (cons_option c (cons_option d [])))) ≡ lesser (lesser a b) (lesser c d)
least_of_four a b c d =
    least_is_nearest (cons_option a (cons_option b (cons_option c (cons_option d []))))
    ∙ nearest_with a (cons_option b (cons_option c (cons_option d [])))
    ∙ ap (lesser a) (nearest_with b (cons_option c (cons_option d [])) ∙ ap (lesser b) (nearest_with c (cons_option d []) ∙ ap (lesser c) (nearest_with d [] ∙ lesser_none d)))
    ∙ lesser_joins a b (lesser c d)

-- ---- of the live routes at each prefix
module _ (interior : Proto → Interiors) where
  abbrev here : Proto → Rows Interior
  here proto = tables.get (interior proto)

  pub least_two : (a b : Proto) → ◌≡◌ {A = Rows Interior} (λ p. lesser (here a p) (here b p)) (least_rows interior (a ∷ b ∷ []))
  least_two a b i p = sym (least_of_two (here a p) (here b p)) i

  pub least_four : (a b c d : Proto) → ◌≡◌ {A = Rows Interior} (λ p. lesser (lesser (here a p) (here b p)) (lesser (here c p) (here d p))) (least_rows interior (a ∷ b ∷ c ∷ d ∷ []))
  least_four a b c d i p = sym (least_of_four (here a p) (here b p) (here c p) (here d p)) i
