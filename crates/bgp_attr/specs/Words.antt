-- Paths as they are kept: one word after the other, for each segment one that tells its kind and how many numbers follow, and these.
use Rattle.std.specs.Prelude.{ℕ, zero, suc, ◌+◌, ◌*◌, ◌/◌, ◌%◌, ◌^◌, ◌==◌, ◌≡◌, if◌then◌else◌, List, [], ◌∷◌, take, fold, bit_or}
use Rattle.std.specs.Int.{bit_at}
use Rattle.bgp_attr.specs.declared.path.SegmentKind.{SegmentKind}
use Rattle.bgp_attr.specs.declared.path.SegmentKind.TheVariants.{Set, Sequence}
use Rattle.bgp_attr.specs.declared.path.Segment.{Segment}

-- a segment's first word: twice the count of its numbers, and one more for an AS_SEQUENCE
abbrev pub head_of : SegmentKind → ℕ → ℕ
head_of Set count = 2 * count
head_of Sequence count = 2 * count + 1

abbrev pub count_in : ℕ → ℕ
count_in head = head / 2

abbrev pub kind_in : ℕ → SegmentKind
kind_in head = if head % 2 == 1 then Sequence else Set

-- the segments behind the next n words
abbrev pub segments_after : ℕ → List ℕ → List Segment
segments_after n [] = []
segments_after zero (head ∷ words) = record { kind = kind_in head; numbers = take (count_in head) words } ∷ segments_after (count_in head) words
segments_after (suc n) (word ∷ words) = segments_after n words

-- how many numbers the last segment lacks, where n words are still its predecessor's
abbrev pub missing_after : ℕ → List ℕ → ℕ
missing_after n [] = n
missing_after zero (head ∷ words) = missing_after (count_in head) words
missing_after (suc n) (word ∷ words) = missing_after n words

-- a path that isn't complete yet: its segments so far, and how many numbers the last one still lacks
pub record Unfinished : Type 0 where
  pub segments : List Segment
  pub missing : ℕ

-- the marks of words: bit i tells whether some word leaves the rest i by 64
abbrev pub with_mark : ℕ → ℕ → ℕ
with_mark marks word = bit_or marks (2 ^ (word % 64))

abbrev pub marks_of : List ℕ → ℕ
marks_of words = fold with_mark 0 words

abbrev pub IsMarked : ℕ → ℕ → Type 0
IsMarked marks word = bit_at marks (word % 64) ≡ 1
