-- Attributes that are read are in the grammar, and those in the grammar are read.
use Rattle.std.proofs.Common.{◌≡◌, ℕ, zero, suc, ◌*◌, ◌+◌, ◌≤◌, ◌<◌, Bool, true, false, cond, ltb, List, [], ◌∷◌, ◌++◌, length, take, drop, get_or, Option, Some, None, Ok, Err, refl, sym, ap, subst, ◌∙◌, inl, inr, arith}
use Rattle.std.specs.Prelude.{option_and_then}
use Rattle.std.proofs.lemmas.List.{length-take, length-append, take-append-drop, take_at, drop_at}
use Rattle.std.proofs.lemmas.Bool.{ltb-false, le-ltb}
use Rattle.bgp_attr.specs.declared.speaker.Profile.{Profile}
use Rattle.bgp_wire.specs.declared.attributes.Verdict.{Verdict}
use Rattle.bgp_wire.specs.Faults.{notice, ◌>>=◌}
use Rattle.bgp_wire.specs.Attributes.{Attribute, Kept, is_extended, IsShort, IsExtended, IsAttribute, RunsBeyond, AreAttributes, kept_by, size_at, cut, attribute_at, judgement, with_verdict, attributes_step, attributes_at}
use Rattle.bgp_wire.proofs.ResultLemmas.{bind_ok, same_ok}
use Rattle.bgp_wire.proofs.AttributeLoops.{attribute_shorter, attributes_first, attributes_end}

taken : {A : Type 0} (b : Bool) (a x : A) → cond b None (Some a) ≡ Some x → (b ≡ false) × (a ≡ x)
taken true a x e = absurd (cc)
taken false a x e = (refl, cc)

-- the header of a short attribute, and of an extended one
length_short : (f k n : ℕ) (tail : List ℕ) → is_extended f ≡ false → size_at (f ∷ k ∷ n ∷ tail) ≡ Some (n, 3)
unfolding size_at
length_short f k n [] e = ap (λ b. cond b None (Some (n, 3))) e
length_short f k n (l ∷ tail) e = ap (λ b. cond b (Some (n * 256 + l, 4)) (Some (n, 3))) e

length_long : (f k h l : ℕ) (tail : List ℕ) → is_extended f ≡ true → size_at (f ∷ k ∷ h ∷ l ∷ tail) ≡ Some (h * 256 + l, 4)
unfolding size_at
length_long f k h l tail e = ap (λ b. cond b (Some (h * 256 + l, 4)) (Some (h, 3))) e

short_cut : (a : Attribute) (rest : List ℕ) → IsShort a → cut (a.octets ++ rest) (length a.value, 3) ≡ Some (a, rest)
short_cut a rest is =
    let n = length a.value in
    let len : length a.octets ≡ 3 + n = omega (arith, ap length is.spelled) in
    let enough : ltb (length (a.octets ++ rest)) (3 + n) ≡ false = le-ltb _ _ (omega (arith, length-append a.octets rest)) in
    let front : take (3 + n) (a.octets ++ rest) ≡ a.octets = take_at a.octets rest (3 + n) len in
    let back : drop (3 + n) (a.octets ++ rest) ≡ rest = drop_at a.octets rest (3 + n) len in
    let whole : drop 3 a.octets ≡ a.value = ap (drop 3) is.spelled in
    let flags : get_or (a.octets ++ rest) 0 0 ≡ a.flags = ap (λ (o : List ℕ). get_or (o ++ rest) 0 0) is.spelled in
    let kind : get_or (a.octets ++ rest) 1 0 ≡ a.kind = ap (λ (o : List ℕ). get_or (o ++ rest) 1 0) is.spelled in
    ap (λ b. cond b None (Some (record { flags = get_or (a.octets ++ rest) 0 0; kind = get_or (a.octets ++ rest) 1 0; value = drop 3 (take (3 + n) (a.octets ++ rest)); octets = take (3 + n) (a.octets ++ rest) }, drop (3 + n) (a.octets ++ rest)))) enough
    ∙ (λ i. Some (record { flags = flags i; kind = kind i; value = (ap (drop 3) front ∙ whole) i; octets = front i }, back i))

long_cut : (a : Attribute) (rest : List ℕ) (is : IsExtended a) → cut (a.octets ++ rest) (is.high * 256 + is.low, 4) ≡ Some (a, rest)
long_cut a rest is =
    let n = is.high * 256 + is.low in
    let len : length a.octets ≡ 4 + n = omega (arith, ap length is.spelled, is.size) in
    let enough : ltb (length (a.octets ++ rest)) (4 + n) ≡ false = le-ltb _ _ (omega (arith, length-append a.octets rest)) in
    let front : take (4 + n) (a.octets ++ rest) ≡ a.octets = take_at a.octets rest (4 + n) len in
    let back : drop (4 + n) (a.octets ++ rest) ≡ rest = drop_at a.octets rest (4 + n) len in
    let whole : drop 4 a.octets ≡ a.value = ap (drop 4) is.spelled in
    let flags : get_or (a.octets ++ rest) 0 0 ≡ a.flags = ap (λ (o : List ℕ). get_or (o ++ rest) 0 0) is.spelled in
    let kind : get_or (a.octets ++ rest) 1 0 ≡ a.kind = ap (λ (o : List ℕ). get_or (o ++ rest) 1 0) is.spelled in
    ap (λ b. cond b None (Some (record { flags = get_or (a.octets ++ rest) 0 0; kind = get_or (a.octets ++ rest) 1 0; value = drop 4 (take (4 + n) (a.octets ++ rest)); octets = take (4 + n) (a.octets ++ rest) }, drop (4 + n) (a.octets ++ rest)))) enough
    ∙ (λ i. Some (record { flags = flags i; kind = kind i; value = (ap (drop 4) front ∙ whole) i; octets = front i }, back i))

-- an attribute is read, whatever follows it
pub attribute_again : (a : Attribute) (rest : List ℕ) → IsAttribute a → attribute_at (a.octets ++ rest) ≡ Some (a, rest)
attribute_again a rest is = elim is [
  | inl s ↦
      let header : size_at (a.octets ++ rest) ≡ Some (length a.value, 3) = ap (λ (o : List ℕ). size_at (o ++ rest)) s.spelled ∙ length_short a.flags a.kind (length a.value) (a.value ++ rest) s.flag in
      ap (option_and_then (cut (a.octets ++ rest))) header ∙ short_cut a rest s
  | inr l ↦
      let header : size_at (a.octets ++ rest) ≡ Some (l.high * 256 + l.low, 4) = ap (λ (o : List ℕ). size_at (o ++ rest)) l.spelled ∙ length_long a.flags a.kind l.high l.low (a.value ++ rest) l.flag in
      ap (option_and_then (cut (a.octets ++ rest))) header ∙ long_cut a rest l
]

take_three : (n a b c : ℕ) (rest : List ℕ) → take (3 + n) (a ∷ b ∷ c ∷ rest) ≡ a ∷ b ∷ c ∷ take n rest
take_three n a b c rest = let e : 3 + n ≡ suc (suc (suc n)) = omega arith in ap (λ k. take k (a ∷ b ∷ c ∷ rest)) e

take_four : (n a b c d : ℕ) (rest : List ℕ) → take (4 + n) (a ∷ b ∷ c ∷ d ∷ rest) ≡ a ∷ b ∷ c ∷ d ∷ take n rest
take_four n a b c d rest = let e : 4 + n ≡ suc (suc (suc (suc n))) = omega arith in ap (λ k. take k (a ∷ b ∷ c ∷ d ∷ rest)) e

-- what was cut is an attribute
cut_short : (f k n : ℕ) (tail : List ℕ) (x : Attribute × List ℕ) → is_extended f ≡ false → cut (f ∷ k ∷ n ∷ tail) (n, 3) ≡ Some x → (f ∷ k ∷ n ∷ tail ≡ x.0.octets ++ x.1) × IsAttribute x.0
cut_short f k n tail x flag e =
    let bytes = f ∷ k ∷ n ∷ tail in
    let made : Attribute × List ℕ = (record { flags = f; kind = k; value = drop 3 (take (3 + n) bytes); octets = take (3 + n) bytes }, drop (3 + n) bytes) in
    let t = taken (ltb (length bytes) (3 + n)) made x e in
    let front = take_three n f k n tail in
    let value : drop 3 (take (3 + n) bytes) ≡ take n tail = ap (drop 3) front in
    let len : length (take n tail) ≡ n = omega (arith, length-take n tail, ltb-false _ _ t.0) in
    let spelled : take (3 + n) bytes ≡ f ∷ k ∷ length (drop 3 (take (3 + n) bytes)) ∷ drop 3 (take (3 + n) bytes) =
    front ∙ (λ i. f ∷ k ∷ sym len i ∷ take n tail) ∙ (λ i. f ∷ k ∷ length (sym value i) ∷ sym value i) in
    subst (λ (y : Attribute × List ℕ). (bytes ≡ y.0.octets ++ y.1) × IsAttribute y.0) t.1
    (sym (take-append-drop (3 + n) bytes), inl (record { flag = flag; spelled = spelled }))

cut_long : (f k h l : ℕ) (tail : List ℕ) (x : Attribute × List ℕ) → is_extended f ≡ true → cut (f ∷ k ∷ h ∷ l ∷ tail) (h * 256 + l, 4) ≡ Some x → (f ∷ k ∷ h ∷ l ∷ tail ≡ x.0.octets ++ x.1) × IsAttribute x.0
cut_long f k h l tail x flag e =
    let bytes = f ∷ k ∷ h ∷ l ∷ tail in
    let n = h * 256 + l in
    let made : Attribute × List ℕ = (record { flags = f; kind = k; value = drop 4 (take (4 + n) bytes); octets = take (4 + n) bytes }, drop (4 + n) bytes) in
    let t = taken (ltb (length bytes) (4 + n)) made x e in
    let front = take_four n f k h l tail in
    let value : drop 4 (take (4 + n) bytes) ≡ take n tail = ap (drop 4) front in
    let len : n ≡ length (drop 4 (take (4 + n) bytes)) = omega (arith, length-take n tail, ltb-false _ _ t.0, ap length value) in
    let spelled : take (4 + n) bytes ≡ f ∷ k ∷ h ∷ l ∷ drop 4 (take (4 + n) bytes) = front ∙ (λ i. f ∷ k ∷ h ∷ l ∷ sym value i) in
    subst (λ (y : Attribute × List ℕ). (bytes ≡ y.0.octets ++ y.1) × IsAttribute y.0) t.1
    (sym (take-append-drop (4 + n) bytes), inr (record { high = h; low = l; flag = flag; size = len; spelled = spelled }))

pub attribute_takes : (bytes : List ℕ) (x : Attribute × List ℕ) → attribute_at bytes ≡ Some x → (bytes ≡ x.0.octets ++ x.1) × IsAttribute x.0
unfolding size_at
attribute_takes [] x e = absurd (cc)
attribute_takes (f ∷ []) x e = absurd (cc)
attribute_takes (f ∷ k ∷ []) x e = absurd (cc)
attribute_takes (f ∷ k ∷ n ∷ []) x e =
    elim (is_extended f) as (λ b. is_extended f ≡ b → option_and_then (cut (f ∷ k ∷ n ∷ [])) (cond b None (Some (n, 3))) ≡ Some x → (f ∷ k ∷ n ∷ [] ≡ x.0.octets ++ x.1) × IsAttribute x.0) [
      | true ↦ λ flag e. absurd (cc)
      | false ↦ λ flag e. cut_short f k n [] x flag e
    ] refl e
attribute_takes (f ∷ k ∷ h ∷ l ∷ tail) x e =
    elim (is_extended f) as (λ b. is_extended f ≡ b → option_and_then (cut (f ∷ k ∷ h ∷ l ∷ tail)) (cond b (Some (h * 256 + l, 4)) (Some (h, 3))) ≡ Some x → (f ∷ k ∷ h ∷ l ∷ tail ≡ x.0.octets ++ x.1) × IsAttribute x.0) [
      | true ↦ λ flag e. cut_long f k h l tail x flag e
      | false ↦ λ flag e. cut_short f k h (l ∷ tail) x flag e
    ] refl e

-- nothing that is an attribute begins there
pub runs_beyond : (bytes : List ℕ) → 0 < length bytes → attribute_at bytes ≡ None → RunsBeyond bytes
runs_beyond bytes some none = record {
  some = some;
  none = λ a rest is e. let found : attribute_at bytes ≡ Some (a, rest) = ap attribute_at e ∙ attribute_again a rest is in absurd (never (sym none ∙ found));
}
  where
    never : {A : Type 0} {x : A} → ◌≡◌ {A = Option A} None (Some x) → ⊥
    never e = absurd (cc)

pub none_at : (bytes : List ℕ) → RunsBeyond bytes → attribute_at bytes ≡ None
none_at bytes beyond = by_case (attribute_at bytes) refl
  where
    by_case : (o : Option (Attribute × List ℕ)) → attribute_at bytes ≡ o → attribute_at bytes ≡ None
    by_case None e = e
    by_case (Some x) e = let t = attribute_takes bytes x e in absurd (beyond.none x.0 x.1 t.1 t.0)

octets_some : (a : Attribute) (rest : List ℕ) → IsAttribute a → 0 < length (a.octets ++ rest)
octets_some a rest is = elim is [
  | inl s ↦ omega (arith, length-append a.octets rest, ap length s.spelled)
  | inr l ↦ omega (arith, length-append a.octets rest, ap length l.spelled)
]

pub attributes_again : (p : Profile) (external : Bool) (seen bytes : List ℕ) (steps : List (Attribute × Verdict)) (runs : Bool) → AreAttributes p external seen bytes steps runs → attributes_at p external seen bytes ≡ Ok (kept_by steps runs)
attributes_again p external seen bytes [] false is = attributes_end p external seen bytes (ap length is)
attributes_again p external seen bytes [] true is =
    attributes_first p external seen bytes is.1.some
    ∙ ap (λ o. attributes_step p external seen o (λ kinds rest. attributes_at p external kinds rest)) (none_at bytes is.1)
    ∙ ap (λ b. cond b (Ok ([], true)) (Err (notice 3 1 []))) is.0
attributes_again p external seen bytes (s ∷ steps) runs is =
    let whole = s.0.octets ++ is.0 in
    ap (attributes_at p external seen) is.1
    ∙ attributes_first p external seen whole (octets_some s.0 is.0 is.2)
    ∙ ap (λ o. attributes_step p external seen o (λ kinds rest. attributes_at p external kinds rest)) (attribute_again s.0 is.0 is.2)
    ∙ ap (λ j. j >>= λ verdict. attributes_at p external (seen ++ s.0.kind ∷ []) is.0 >>= λ kept. Ok (with_verdict verdict s.0 kept)) is.3
    ∙ ap (λ later. later >>= λ kept. Ok (with_verdict s.1 s.0 kept)) (attributes_again p external (seen ++ s.0.kind ∷ []) is.0 steps runs is.4)

-- attributes, their steps, and what is kept
pub record Stepped (p : Profile) (external : Bool) (seen bytes : List ℕ) (k : Kept) : Type 0 where
  pub steps : List (Attribute × Verdict)
  pub runs : Bool
  pub are : AreAttributes p external seen bytes steps runs
  pub kept : k ≡ kept_by steps runs

revised_only : (b : Bool) (k : Kept) → cond b (Ok ([], true)) (Err (notice 3 1 [])) ≡ Ok k → (b ≡ true) × (k ≡ ([], true))
revised_only true k e = (refl, sym (same_ok ([], true) k e))
revised_only false k e = absurd (cc)

pub attributes_within_take : (n : ℕ) (p : Profile) (external : Bool) (seen bytes : List ℕ) (k : Kept) → length bytes ≤ n → attributes_at p external seen bytes ≡ Ok k → Stepped p external seen bytes k
attributes_within_take n p external seen [] k le e =
    let is : ([], false) ≡ k = same_ok _ _ (sym (attributes_end p external seen [] refl) ∙ e) in
    record { steps = []; runs = false; are = refl; kept = sym is }
attributes_within_take zero p external seen (b ∷ bytes) k le e = absurd (omega arith)
attributes_within_take (suc n) p external seen (b ∷ bytes) k le e =
    by_attribute (attribute_at (b ∷ bytes)) refl (sym (attributes_first p external seen (b ∷ bytes) (omega arith)) ∙ e)
    (λ x at kinds k e. let less = attribute_shorter (b ∷ bytes) x at in attributes_within_take n p external kinds x.1 k (omega arith) e)
  where
    by_attribute : (o : Option (Attribute × List ℕ)) → attribute_at (b ∷ bytes) ≡ o → attributes_step p external seen o (λ kinds rest. attributes_at p external kinds rest) ≡ Ok k
        → ((x : Attribute × List ℕ) → attribute_at (b ∷ bytes) ≡ Some x → (kinds : List ℕ) (k : Kept) → attributes_at p external kinds x.1 ≡ Ok k → Stepped p external kinds x.1 k) → Stepped p external seen (b ∷ bytes) k
    by_attribute None at e later =
        let r = revised_only p.revised k e in
        record { steps = []; runs = true; are = (r.0, runs_beyond (b ∷ bytes) (omega arith) at); kept = r.1 }
    by_attribute (Some x) at e later =
        let v = bind_ok (judgement p external seen x.0) (λ verdict. attributes_at p external (seen ++ x.0.kind ∷ []) x.1 >>= λ kept. Ok (with_verdict verdict x.0 kept)) k e in
        let w = bind_ok (attributes_at p external (seen ++ x.0.kind ∷ []) x.1) (λ kept. Ok (with_verdict v.0 x.0 kept)) k v.2 in
        let t = attribute_takes (b ∷ bytes) x at in
        let rest = later x at (seen ++ x.0.kind ∷ []) w.0 w.1 in
        record {
          steps = (x.0, v.0) ∷ rest.steps;
          runs = rest.runs;
          are = (x.1, t.0, t.1, v.1, rest.are);
          kept = sym (same_ok (with_verdict v.0 x.0 w.0) k w.2) ∙ ap (with_verdict v.0 x.0) rest.kept;
        }

pub attributes_take : (p : Profile) (external : Bool) (seen bytes : List ℕ) (k : Kept) → attributes_at p external seen bytes ≡ Ok k → Stepped p external seen bytes k
attributes_take p external seen bytes k e = attributes_within_take (length bytes) p external seen bytes k (omega arith) e
