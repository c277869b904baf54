-- Paths: what is read is in the grammar, and what is in the grammar is read.
use Rattle.std.proofs.Common.{◌≡◌, ℕ, zero, suc, ◌+◌, ◌*◌, ◌≤◌, ◌<◌, true, false, cond, eqb, ltb, ◌||◌, List, [], ◌∷◌, ◌++◌, length, take, drop, Option, Some, None, Result, Ok, Err, refl, sym, ap, subst, ◌∙◌, arith}
use Rattle.std.proofs.lemmas.List.{length-take, length-drop, drop-drop, length-append, take-append-drop, drop_at, drop-append-le}
use Rattle.std.proofs.lemmas.Bool.{ltb-false, le-ltb, eqb-true}
use Rattle.byteorder.specs.Endian.{big_number}
use Rattle.byteorder.specs.Numbers.{big_from-append}
use Rattle.bgp_attr.specs.declared.path.Segment.{Segment}
use Rattle.bgp_attr.specs.declared.path.SegmentKind.{SegmentKind}
use Rattle.bgp_attr.specs.declared.path.SegmentKind.TheVariants.{Set, Sequence}
use Rattle.bgp_wire.specs.Paths.{code_of, kind_of, numbers_at, IsSegment, IsPath, bad_path, segment_of, segment_at, path_at, behind}
use Rattle.bgp_wire.specs.declared.notice.Notice.{Notice}
use Rattle.bgp_wire.specs.declared.notice.Refusal.{Refusal}
use Rattle.bgp_wire.specs.declared.notice.Refusal.TheVariants as refusals
use Rattle.bgp_wire.specs.Faults.{Fails}
use Rattle.bgp_wire.proofs.TestLemmas.{or_false_left, or_false_right, nonzero, not_zero}
use Rattle.bgp_wire.proofs.ResultLemmas.{same_ok, guard_ok, not_both}
use Rattle.bgp_wire.proofs.ItemLaws.{items_take, items_again}

-- numbers stand in the octets that they take
numbers_front : (width count : ℕ) (front rest : List ℕ) → count * width ≤ length front → numbers_at width count (front ++ rest) ≡ numbers_at width count front
numbers_front width zero front rest le = refl
numbers_front width (suc count) front rest le =
    let whole : suc count * width ≡ count * width + width = omega arith in
    let here : width ≤ length front = omega (arith, whole) in
    let later : drop width (front ++ rest) ≡ drop width front ++ rest = drop-append-le width front rest here in
    let enough : count * width ≤ length (drop width front) = omega (arith, whole, length-drop width front) in
    λ i. big_from-append width front rest here i ∷ (ap (numbers_at width count) later ∙ numbers_front width count (drop width front) rest enough) i

-- ---- a loop that reads numbers

-- so many numbers are read behind those of the last segment, and the rest follows
pub record AreRead (width done : ℕ) (octets rest : List ℕ) (old new : List Segment) : Type 0 where
  pub segments : (front : List Segment) (kind : SegmentKind) → old ≡ front ++ record { kind = kind; numbers = [] } ∷ [] → new ≡ front ++ record { kind = kind; numbers = numbers_at width done octets } ∷ []
  pub after : rest ≡ drop (done * width) octets

numbers_more : (width done : ℕ) (octets : List ℕ) → numbers_at width (suc done) octets ≡ numbers_at width done octets ++ big_number width (drop (done * width) octets) ∷ []
numbers_more width zero octets = let z : 0 ≡ 0 * width = omega arith in ap (λ n. big_number width (drop n octets) ∷ []) z
numbers_more width (suc done) octets =
    let whole : width + done * width ≡ suc done * width = omega arith in
    ap (λ ns. big_number width octets ∷ ns)
    (numbers_more width done (drop width octets)
    ∙ ap (λ os. numbers_at width done (drop width octets) ++ big_number width os ∷ []) (drop-drop (done * width) width octets ∙ ap (λ n. drop n octets) whole))

pub begin_numbers : (width : ℕ) (octets : List ℕ) (old : List Segment) → AreRead width 0 octets octets old old
begin_numbers width octets old = let z : 0 ≡ 0 * width = omega arith in record { segments = λ front kind e. e; after = ap (λ n. drop n octets) z }

pub read_more : (width done : ℕ) (octets rest : List ℕ) (old here new : List Segment) → AreRead width done octets rest old here
    → ((front : List Segment) (kind : SegmentKind) (numbers : List ℕ) → here ≡ front ++ record { kind = kind; numbers = numbers } ∷ [] → new ≡ front ++ record { kind = kind; numbers = numbers ++ big_number width rest ∷ [] } ∷ [])
    → AreRead width (suc done) octets (drop width rest) old new
read_more width done octets rest old here new is more =
    let whole : done * width + width ≡ suc done * width = omega arith in
    record {
      segments = λ front kind e.
          more front kind (numbers_at width done octets) (is.segments front kind e)
          ∙ ap (λ ns. front ++ record { kind = kind; numbers = ns } ∷ []) (ap (λ os. numbers_at width done octets ++ big_number width os ∷ []) is.after ∙ sym (numbers_more width done octets));
      after = ap (drop width) is.after ∙ drop-drop width (done * width) octets ∙ ap (λ n. drop n octets) whole;
    }

-- ---- a segment behind those that were read
pub behind_ok : (front : List Segment) (read : Result (Segment × List ℕ) Notice) (new : List Segment) (after : List ℕ) → behind front read ≡ Ok (new, after) → (x : Segment × List ℕ) × (read ≡ Ok x) × (front ++ x.0 ∷ [] ≡ new) × (x.1 ≡ after)
behind_ok front (Ok x) new after e = let p = same_ok (front ++ x.0 ∷ [], x.1) (new, after) e in (x, refl, ap (λ y. y.0) p, ap (λ y. y.1) p)
behind_ok front (Err n) new after e = absurd (not_both n (new, after) e)

pub behind_fails : (e : Refusal) (front : List Segment) (read : Result (Segment × List ℕ) Notice) → Fails e (behind front read) → Fails e read
behind_fails refusals.Memory front read fails = tt
behind_fails (refusals.Fault n) front (Ok x) fails = absurd (not_both n (front ++ x.0 ∷ [], x.1) (sym fails))
behind_fails (refusals.Fault n) front (Err m) fails = let same : m ≡ n = cc in ap (λ d. Err d) same

length-numbers_at : (width count : ℕ) (octets : List ℕ) → length (numbers_at width count octets) ≡ count
length-numbers_at width zero octets = refl
length-numbers_at width (suc count) octets = ap suc (length-numbers_at width count (drop width octets))

kind_takes : (code : ℕ) (kind : SegmentKind) → kind_of code ≡ Some kind → code ≡ code_of kind
kind_takes code kind e =
    elim (eqb code 1) as (λ b. eqb code 1 ≡ b → cond b (Some Set) (cond (eqb code 2) (Some Sequence) None) ≡ Some kind → code ≡ code_of kind) [
      | true ↦ λ is e. subst (λ k. code ≡ code_of k) (some_same Set kind e) (eqb-true _ _ is)
      | false ↦ λ is e. elim (eqb code 2) as (λ b. eqb code 2 ≡ b → cond b (Some Sequence) None ≡ Some kind → code ≡ code_of kind) [
        | true ↦ λ is e. subst (λ k. code ≡ code_of k) (some_same Sequence kind e) (eqb-true _ _ is)
        | false ↦ λ is e. absurd (cc)
      ] refl e
    ] refl e
  where
    some_same : (x y : SegmentKind) → ◌≡◌ {A = Option SegmentKind} (Some x) (Some y) → x ≡ y
    some_same x y e = cc

kind_again : (kind : SegmentKind) → kind_of (code_of kind) ≡ Some kind
kind_again Set = refl
kind_again Sequence = refl

by_kind : (width code count : ℕ) (rest : List ℕ) (o : Option SegmentKind) (x : Segment × List ℕ) → kind_of code ≡ o → segment_of width count rest o ≡ Ok x → (octets : List ℕ) × (code ∷ count ∷ rest ≡ octets ++ x.1) × IsSegment width octets x.0
by_kind width code count rest None x is e = absurd (not_both bad_path x e)
by_kind width code count rest (Some kind) x is e =
    let size = count * width in
    let made : Segment × List ℕ = (record { kind = kind; numbers = numbers_at width count rest }, drop size rest) in
    let a = guard_ok (eqb count 0 || ltb (length rest) size) bad_path (Ok made) x e in
    let some : 0 < count = nonzero count (or_false_left (eqb count 0) _ a.0) in
    let enough : size ≤ length rest = ltb-false _ _ (or_false_right (eqb count 0) _ a.0) in
    let parts : rest ≡ take size rest ++ drop size rest = sym (take-append-drop size rest) in
    let full : length (take size rest) ≡ size = omega (arith, length-take size rest) in
    let counted : length (numbers_at width count rest) ≡ count = length-numbers_at width count rest in
    let value : numbers_at width count rest ≡ numbers_at width count (take size rest) = ap (numbers_at width count) parts ∙ numbers_front width count (take size rest) (drop size rest) (omega (arith, full)) in
    subst (λ (y : Segment × List ℕ). (octets : List ℕ) × (code ∷ count ∷ rest ≡ octets ++ y.1) × IsSegment width octets y.0) (same_ok made x a.1) (
      code ∷ count ∷ take size rest,
      ap (λ (r : List ℕ). code ∷ count ∷ r) parts,
      record {
        numbers = take size rest;
        spelled = λ i. kind_takes code kind is i ∷ sym counted i ∷ take size rest;
        some = subst (λ n. 0 < n) (sym counted) some;
        size = full ∙ ap (λ n. n * width) (sym counted);
        value = value ∙ ap (λ n. numbers_at width n (take size rest)) (sym counted);
      },
    )

pub segment_takes : (width : ℕ) (bytes : List ℕ) (x : Segment × List ℕ) → segment_at width bytes ≡ Ok x → (octets : List ℕ) × (bytes ≡ octets ++ x.1) × IsSegment width octets x.0
unfolding segment_at
segment_takes width [] x e = absurd (not_both bad_path x e)
segment_takes width (code ∷ []) x e = absurd (not_both bad_path x e)
segment_takes width (code ∷ count ∷ rest) x e = by_kind width code count rest (kind_of code) x refl e

pub segment_shortens : (width : ℕ) (bytes : List ℕ) (x : Segment × List ℕ) → segment_at width bytes ≡ Ok x → length x.1 < length bytes
segment_shortens width bytes x e =
    let t = segment_takes width bytes x e in
    omega (arith, ap length t.1, length-append t.0 x.1, ap length t.2.spelled)

pub segment_again : (width : ℕ) (octets rest : List ℕ) (s : Segment) → IsSegment width octets s → (0 < length octets) × (segment_at width (octets ++ rest) ≡ Ok (s, rest))
unfolding segment_at
segment_again width octets rest s is =
    let count = length s.numbers in
    let size = count * width in
    let enough : ltb (length (is.numbers ++ rest)) size ≡ false = le-ltb _ _ (omega (arith, length-append is.numbers rest, is.size)) in
    let back : drop size (is.numbers ++ rest) ≡ rest = drop_at is.numbers rest size is.size in
    let value : numbers_at width count (is.numbers ++ rest) ≡ s.numbers = numbers_front width count is.numbers rest (omega (arith, is.size)) ∙ sym is.value in
    let read : segment_of width count (is.numbers ++ rest) (Some s.kind) ≡ Ok (s, rest) =
    (λ i. cond (not_zero count is.some i || enough i) (Err bad_path) (Ok (record { kind = s.kind; numbers = value i }, back i))) in (
      omega (arith, ap length is.spelled),
      ap (λ (o : List ℕ). segment_at width (o ++ rest)) is.spelled ∙ ap (segment_of width count (is.numbers ++ rest)) (kind_again s.kind) ∙ read,
    )

pub path_takes : (width : ℕ) (bytes : List ℕ) (path : List Segment) → path_at width bytes ≡ Ok path → IsPath width bytes path
path_takes width bytes path e = items_take (segment_at width) (IsSegment width) bytes path (segment_shortens width) (segment_takes width) e

pub path_again : (width : ℕ) (bytes : List ℕ) (path : List Segment) → IsPath width bytes path → path_at width bytes ≡ Ok path
path_again width bytes path is = items_again (segment_at width) (IsSegment width) bytes path (segment_shortens width) (segment_again width) is
