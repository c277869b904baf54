-- Paths that an AS was put in front of: what it leads, and when two of them are the same.
use Rattle.std.proofs.Common.{◌≡◌, ◌≢◌, ℕ, zero, suc, ◌+◌, ◌-◌, ◌<◌, ◌≤◌, List, [], ◌∷◌, Bool, true, false, cond, ◌↔◌, refl, sym, ap, ◌∙◌, arith, add-suc, add-zero}
use Rattle.bgp_attr.specs.declared.path.Segment.{Segment}
use Rattle.bgp_attr.specs.Paths.{takes_one_more, in_front, times_in_front}
use Rattle.bgp_attr.specs.Fronts.{path_led_by}

-- the AS leads the path
record IsLedBy (asn : ℕ) (path : List Segment) : Type 0 where
  numbers : List ℕ
  segments : List Segment
  is : path ≡ path_led_by asn numbers segments

led_by_test : (asn : ℕ) (s : Segment) (ss : List Segment) (room : Bool) → IsLedBy asn (cond room (path_led_by asn s.numbers ss) (path_led_by asn [] (s ∷ ss)))
led_by_test asn s ss true = record { numbers = s.numbers; segments = ss; is = refl }
led_by_test asn s ss false = record { numbers = []; segments = s ∷ ss; is = refl }

-- an AS that was put in front leads
in_front-is_led : (asn : ℕ) (path : List Segment) → IsLedBy asn (in_front asn path)
in_front-is_led asn [] = record { numbers = []; segments = []; is = refl }
in_front-is_led asn (s ∷ ss) = led_by_test asn s ss (takes_one_more s.kind s.numbers)

abbrev leading_numbers : List Segment → List ℕ
leading_numbers [] = []
leading_numbers (s ∷ ss) = s.numbers

-- paths that one AS leads are the same where the numbers and the segments behind it are
pub same_led : (asn : ℕ) (ns ms : List ℕ) (ss ts : List Segment) → (path_led_by asn ns ss ≡ path_led_by asn ms ts) ↔ ((ns ≡ ms) × (ss ≡ ts))
same_led asn ns ms ss ts = (
  λ same.
      let leading : asn ∷ ns ≡ asn ∷ ms = ap leading_numbers same in
      let numbers : ns ≡ ms = cc in
      let segments : ss ≡ ts = cc in
      (numbers, segments),
  λ parts. λ i. path_led_by asn (parts.0 i) (parts.1 i),
)

same_by_tests :
    (asn : ℕ) (ns ms : List ℕ) (ss ts : List Segment) (room other_room : Bool) →
    cond room (path_led_by asn (asn ∷ ns) ss) (path_led_by asn [] (path_led_by asn ns ss)) ≡
    cond other_room (path_led_by asn (asn ∷ ms) ts) (path_led_by asn [] (path_led_by asn ms ts)) →
    path_led_by asn ns ss ≡ path_led_by asn ms ts
same_by_tests asn ns ms ss ts true true same =
    let parts = (same_led asn (asn ∷ ns) (asn ∷ ms) ss ts).0 same in
    let numbers : ns ≡ ms = cc (parts.0) in
    (same_led asn ns ms ss ts).1 (numbers, parts.1)
same_by_tests asn ns ms ss ts true false same =
    let leading : asn ∷ asn ∷ ns ≡ asn ∷ [] = ap leading_numbers same in cc
same_by_tests asn ns ms ss ts false true same =
    let leading : asn ∷ [] ≡ asn ∷ asn ∷ ms = ap leading_numbers same in cc
same_by_tests asn ns ms ss ts false false same = ((same_led asn [] [] _ _).0 same).1

-- the AS taken off paths that it leads
once_off :
    (asn : ℕ) (path other : List Segment) → IsLedBy asn path → IsLedBy asn other → in_front asn path ≡ in_front asn other → path ≡ other
once_off asn path other p q same =
    p.is ∙ same_by_tests asn p.numbers q.numbers p.segments q.segments _ _ (ap (in_front asn) (sym p.is) ∙ same ∙ ap (in_front asn) q.is) ∙ sym q.is

-- the same path after the AS was taken off both sides, where it stays in front of the right one
pub once_less :
    (asn times : ℕ) (ns ms : List ℕ) (ss ts path : List Segment) →
    path_led_by asn ns ss ≡ in_front asn (path_led_by asn ms ts) →
    (path_led_by asn ns ss ≡ times_in_front (suc (suc times)) asn path) ↔ (path_led_by asn ms ts ≡ times_in_front (suc times) asn path)
once_less asn times ns ms ss ts path is =
    let led : IsLedBy asn (path_led_by asn ms ts) = record { numbers = ms; segments = ts; is = refl } in (
      λ same. once_off asn _ _ led (in_front-is_led asn (times_in_front times asn path)) (sym is ∙ same),
      λ same. is ∙ ap (in_front asn) same,
    )

-- what isn't made by the AS in front of a path that it leads has it in front of no path twice
pub not_twice :
    (asn times : ℕ) (path made : List Segment) →
    ((ns : List ℕ) (ss : List Segment) → made ≢ in_front asn (path_led_by asn ns ss)) → made ≢ times_in_front (suc (suc times)) asn path
not_twice asn times path made none same =
    let led = in_front-is_led asn (times_in_front times asn path) in
    none led.numbers led.segments (same ∙ ap (in_front asn) led.is)

as_often_off :
    (asn times more : ℕ) (path other : List Segment) →
    times_in_front (suc times) asn path ≡ times_in_front (suc (more + times)) asn other → in_front asn path ≡ times_in_front (suc more) asn other
as_often_off asn zero more path other same = rw add-zero at same
as_often_off asn (suc times) more path other same =
    as_often_off asn times more path other
    (once_off asn _ _ (in_front-is_led asn (times_in_front times asn path)) (in_front-is_led asn (times_in_front (more + times) asn other)) (rw add-suc at same))

as_often_on :
    (asn times more : ℕ) (path other : List Segment) →
    in_front asn path ≡ times_in_front (suc more) asn other → times_in_front (suc times) asn path ≡ times_in_front (suc (more + times)) asn other
as_often_on asn zero more path other same = rw add-zero same
as_often_on asn (suc times) more path other same = rw add-suc (ap (in_front asn) (as_often_on asn times more path other same))

-- the AS as often less in front of both paths, down to once
pub once_and_more :
    (asn times other_times : ℕ) (path other : List Segment) →
    0 < times → times ≤ other_times →
    (times_in_front times asn path ≡ times_in_front other_times asn other) ↔ (in_front asn path ≡ times_in_front (other_times - times + 1) asn other)
once_and_more asn zero other_times path other once least = absurd (omega arith)
once_and_more asn (suc times) other_times path other once least =
    let more : ℕ = other_times - suc times in
    let in_all : other_times ≡ suc (more + times) = omega arith in
    let left : other_times - suc times + 1 ≡ suc more = omega arith in
    let often : (n m : ℕ) → n ≡ m → times_in_front n asn other ≡ times_in_front m asn other = λ n m e. ap (λ n. times_in_front n asn other) e in (
      λ same. as_often_off asn times more path other (same ∙ often _ _ in_all) ∙ often _ _ (sym left),
      λ same. as_often_on asn times more path other (same ∙ often _ _ left) ∙ often _ _ (sym in_all),
    )
