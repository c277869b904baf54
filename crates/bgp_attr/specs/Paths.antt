-- AS paths, in the words of RFC 4271.
use Rattle.std.specs.Prelude.{ℕ, zero, suc, ◌-◌, Bool, false, List, [], ◌∷◌, length, sum_by, Any, Contains, nat_lt, if◌then◌else◌, Option, Some, None}
use Rattle.bgp_attr.specs.declared.path.SegmentKind.{SegmentKind}
use Rattle.bgp_attr.specs.declared.path.SegmentKind.TheVariants.{Set, Sequence}
use Rattle.bgp_attr.specs.declared.path.Segment.{Segment}

-- how many AS numbers a segment counts as, by its kind and its numbers: an AS_SET is 1 (section 9.1.2.2 a)
abbrev pub counted : SegmentKind → List ℕ → ℕ
counted Set numbers = 1
counted Sequence numbers = length numbers

-- the number of AS numbers in the path (section 9.1.2.2 a)
abbrev pub hops : List Segment → ℕ
hops path = sum_by (λ s. counted s.kind s.numbers) path

-- the AS is in some segment
abbrev pub HasAs : List Segment → ℕ → Type 0
HasAs path asn = Any (λ s. Contains s.numbers asn) path

-- the first number of an AS_SEQUENCE
abbrev pub first_number : SegmentKind → List ℕ → Option ℕ
first_number Sequence (n ∷ ns) = Some n
first_number Sequence [] = None
first_number Set numbers = None

-- the first AS of a leading AS_SEQUENCE (section 9.1.2.2 c)
abbrev pub first_as : List Segment → Option ℕ
first_as [] = None
first_as (s ∷ ss) = first_number s.kind s.numbers

-- there is room for one more AS: an AS_SEQUENCE of fewer than 255 numbers
abbrev pub takes_one_more : SegmentKind → List ℕ → Bool
takes_one_more Set numbers = false
takes_one_more Sequence numbers = nat_lt (length numbers) 255

-- how many more numbers a segment takes: an AS_SEQUENCE up to 255
abbrev pub room_in : SegmentKind → List ℕ → ℕ
room_in Set numbers = 0
room_in Sequence numbers = 255 - length numbers

-- and the leading one of some; 0 where there is none
abbrev pub leading_room : List Segment → ℕ
leading_room [] = 0
leading_room (s ∷ ss) = room_in s.kind s.numbers

-- an AS put in front: into a leading AS_SEQUENCE of fewer than 255 numbers, else as a new AS_SEQUENCE (section 5.1.2 b)
abbrev pub in_front : ℕ → List Segment → List Segment
in_front asn [] = record { kind = Sequence; numbers = asn ∷ [] } ∷ []
in_front asn (s ∷ ss) =
    if takes_one_more s.kind s.numbers then record { kind = Sequence; numbers = asn ∷ s.numbers } ∷ ss
    else record { kind = Sequence; numbers = asn ∷ [] } ∷ s ∷ ss

-- the AS put in front n times, one after the other
abbrev pub times_in_front : ℕ → ℕ → List Segment → List Segment
times_in_front zero asn path = path
times_in_front (suc n) asn path = in_front asn (times_in_front n asn path)
