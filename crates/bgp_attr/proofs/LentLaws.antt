-- Paths with an AS in front, the first segment apart.
use Rattle.std.proofs.Common.{◌≡◌, inl, inr, ℕ, zero, suc, Bool, true, false, cond, ◌+◌, ◌-◌, ◌≤◌, ◌<◌, List, [], ◌∷◌, ◌++◌, length, get_or, take, replicate, refl, sym, ap, ◌∙◌, arith}
use Rattle.std.proofs.lemmas.List.{length-append, length-replicate, length-take-le}
use Rattle.std.proofs.lemmas.Bool.{le-ltb, cases_lt}
use Rattle.bgp_attr.specs.declared.path.SegmentKind.{SegmentKind}
use Rattle.bgp_attr.specs.declared.path.SegmentKind.TheVariants.{Set, Sequence}
use Rattle.bgp_attr.specs.declared.path.Segment.{Segment}
use Rattle.bgp_attr.specs.Paths.{takes_one_more, room_in, leading_room, in_front, times_in_front}
use Rattle.bgp_attr.specs.Words.{count_in, kind_in, segments_after, missing_after}
use Rattle.bgp_attr.proofs.WordLaws.{first_segment}
use Rattle.bgp_attr.proofs.FrontLaws.{sequence, joins, begins, join_all, times-add}

-- ---- the room of a leading AS_SEQUENCE
of_sequence : (kind : SegmentKind) (numbers : List ℕ) → kind ≡ Sequence → room_in kind numbers ≡ 255 - length numbers
of_sequence Set numbers e = absurd (cc)
of_sequence Sequence numbers e = refl

pub room_behind : (words : List ℕ) → 1 ≤ length words → missing_after 0 words ≡ 0 → kind_in (get_or words 0 0) ≡ Sequence → leading_room (segments_after 0 words) ≡ 255 - count_in (get_or words 0 0)
room_behind [] some complete is = absurd (omega arith)
room_behind (head ∷ words) some complete is =
    let count = count_in head in
    of_sequence (kind_in head) (take count words) is ∙ ap (λ n. 255 - n) (length-take-le count words (first_segment head words complete).0)

-- ---- the first segment
-- as many as the leading segment has room for join it
pub leading_takes : (times asn : ℕ) (kind : SegmentKind) (numbers : List ℕ) (rest : List Segment) → times ≤ room_in kind numbers
    → times_in_front times asn (record { kind = kind; numbers = numbers } ∷ rest) ≡ record { kind = kind; numbers = replicate times asn ++ numbers } ∷ rest
leading_takes zero asn kind numbers rest fits = refl
leading_takes (suc n) asn Set numbers rest fits = absurd (omega arith)
leading_takes (suc n) asn Sequence numbers rest fits = join_all n asn (sequence numbers ∷ rest) rest numbers (joins asn numbers rest (omega arith)) (omega arith)

-- then it takes none
then_begins : (asn : ℕ) (path : List Segment) → let full = times_in_front (leading_room path) asn path in in_front asn full ≡ sequence (asn ∷ []) ∷ full
then_begins asn [] = refl
then_begins asn (s ∷ rest) = by_kind s.kind s.numbers
  where
    by_kind : (kind : SegmentKind) (numbers : List ℕ) → let full = times_in_front (room_in kind numbers) asn (record { kind = kind; numbers = numbers } ∷ rest) in in_front asn full ≡ sequence (asn ∷ []) ∷ full
    by_kind Set numbers = refl
    by_kind Sequence numbers =
        let room = room_in Sequence numbers in
        let all = replicate room asn ++ numbers in
        let full : 255 ≤ length all = omega (arith, length-append (replicate room asn) numbers, length-replicate room asn) in
        let is = leading_takes room asn Sequence numbers rest (omega arith) in
        ap (in_front asn) is ∙ begins asn (sequence all) rest (le-ltb _ _ full) ∙ ap (λ p. sequence (asn ∷ []) ∷ p) (sym is)

-- and up to 255 others begin one,
begun_behind : (count kept asn : ℕ) (path : List Segment) → let full = times_in_front kept asn path in in_front asn full ≡ sequence (asn ∷ []) ∷ full → 0 < count → count ≤ 255
    → times_in_front (count + kept) asn path ≡ sequence (replicate count asn ++ []) ∷ full
begun_behind zero kept asn path none some few = absurd (omega arith)
begun_behind (suc n) kept asn path none some few =
    let full = times_in_front kept asn path in
    times-add (suc n) kept asn path ∙ join_all n asn full full [] none (omega arith)

-- which then takes none
again_begins : (asn : ℕ) (path : List Segment) → let full = times_in_front (255 + leading_room path) asn path in in_front asn full ≡ sequence (asn ∷ []) ∷ full
again_begins asn path =
    let all = replicate 255 asn ++ [] in
    let is = begun_behind 255 (leading_room path) asn path (then_begins asn path) (omega arith) (omega arith) in
    let full : 255 ≤ length all = omega (arith, length-append (replicate 255 asn) [], length-replicate 255 asn) in
    ap (in_front asn) is ∙ begins asn (sequence all) (times_in_front (leading_room path) asn path) (le-ltb _ _ full) ∙ ap (λ p. sequence (asn ∷ []) ∷ p) (sym is)

-- so the first one has those that the full ones behind it don't take
pub others_begin : (times count asn : ℕ) (path : List Segment) → leading_room path < times → times ≤ 256 → let others = times - leading_room path in
    (others ≤ 255 → count ≡ others) → (255 < others → count ≡ others - 255) → times_in_front times asn path ≡ sequence (replicate count asn ++ []) ∷ times_in_front (times - count) asn path
others_begin times count asn path more few one two = elim (cases_lt 255 (times - leading_room path)) [
  | inl many ↦
      let is : count ≡ times - leading_room path - 255 = two many in
      behind (255 + leading_room path) (omega arith) (again_begins asn path) (omega arith) (omega arith)
  | inr fits ↦
      let is : count ≡ times - leading_room path = one fits in
      behind (leading_room path) (omega arith) (then_begins asn path) (omega arith) (omega arith)
]
  where
    behind : (kept : ℕ) → times ≡ count + kept → let full = times_in_front kept asn path in in_front asn full ≡ sequence (asn ∷ []) ∷ full → 0 < count → count ≤ 255
        → times_in_front times asn path ≡ sequence (replicate count asn ++ []) ∷ times_in_front (times - count) asn path
    behind kept all none some fits =
        let left : kept ≡ times - count = omega arith in
        ap (λ k. times_in_front k asn path) all ∙ begun_behind count kept asn path none some fits ∙ ap (λ k. sequence (replicate count asn ++ []) ∷ times_in_front k asn path) left

-- ---- so there are two segments more at most
joined_count : (times asn : ℕ) (path : List Segment) → times ≤ leading_room path → length (times_in_front times asn path) ≡ length path
joined_count zero asn path fits = refl
joined_count (suc n) asn [] fits = absurd (omega arith)
joined_count (suc n) asn (s ∷ rest) fits = ap length (leading_takes (suc n) asn s.kind s.numbers rest fits)

one_more : (times asn : ℕ) (path : List Segment) → times ≤ 255 → length (times_in_front times asn path) ≤ suc (length path)
one_more times asn path few = elim (cases_lt (leading_room path) times) [
  | inl more ↦
      let count = times - leading_room path in
      omega (arith, ap length (others_begin times count asn path more (omega arith) (λ _. refl) (λ many. absurd (omega arith))), joined_count (times - count) asn path (omega arith))
  | inr fits ↦ omega (arith, joined_count times asn path fits)
]

in_front_count : (asn : ℕ) (path : List Segment) → length (in_front asn path) ≤ suc (length path)
in_front_count asn [] = omega arith
in_front_count asn (s ∷ rest) = by_room (takes_one_more s.kind s.numbers)
  where
    by_room : (b : Bool) → length (cond b (record { kind = Sequence; numbers = asn ∷ s.numbers } ∷ rest) (sequence (asn ∷ []) ∷ s ∷ rest)) ≤ suc (suc (length rest))
    by_room true = omega arith
    by_room false = omega arith

pub two_more_at_most : (times asn : ℕ) (path : List Segment) → times ≤ 256 → length (times_in_front times asn path) ≤ suc (suc (length path))
two_more_at_most zero asn path few = omega arith
two_more_at_most (suc n) asn path few = omega (arith, in_front_count asn (times_in_front n asn path), one_more n asn path (omega arith))
