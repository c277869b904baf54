-- AS paths on the wire (RFC 4271, section 4.3; with numbers of four octets RFC 6793, section 4.1).
use Rattle.std.specs.Prelude.{◌≡◌, ℕ, zero, suc, ◌*◌, ◌<◌, List, [], ◌∷◌, ◌++◌, length, drop, Option, Some, None, Result, Ok, Err, Bool, nat_lt, ◌==◌, ◌||◌, if◌then◌else◌}
use Rattle.byteorder.specs.Endian.{big_number}
use Rattle.bgp_attr.specs.declared.path.Segment.{Segment}
use Rattle.bgp_attr.specs.declared.path.SegmentKind.{SegmentKind}
use Rattle.bgp_attr.specs.declared.path.SegmentKind.TheVariants.{Set, Sequence}
use Rattle.bgp_wire.specs.declared.notice.Notice.{Notice}
use Rattle.bgp_wire.specs.Faults.{notice, ◌>>=◌}
use Rattle.bgp_wire.specs.Items.{AreItems, items_at}

-- how many octets an AS number has
abbrev pub width_of : Bool → ℕ
width_of as4 = if as4 then 4 else 2

abbrev pub code_of : SegmentKind → ℕ
code_of Set = 1
code_of Sequence = 2

-- so many numbers, one after the other
abbrev pub numbers_at : ℕ → ℕ → List ℕ → List ℕ
numbers_at width zero octets = []
numbers_at width (suc count) octets = big_number width octets ∷ numbers_at width count (drop width octets)

-- a type, a count that isn't 0, and so many AS numbers
pub record IsSegment (width : ℕ) (octets : List ℕ) (s : Segment) : Type 0 where
  pub numbers : List ℕ
  pub spelled : octets ≡ code_of s.kind ∷ length s.numbers ∷ numbers
  pub some : 0 < length s.numbers
  pub size : length numbers ≡ length s.numbers * width
  pub value : s.numbers ≡ numbers_at width (length s.numbers) numbers

-- segments to the end
abbrev pub IsPath : ℕ → List ℕ → List Segment → Type 0
IsPath width = AreItems (IsSegment width)

abbrev pub bad_path : Notice
bad_path = notice 3 11 []

abbrev pub kind_of : ℕ → Option SegmentKind
kind_of code = if code == 1 then Some Set else if code == 2 then Some Sequence else None

abbrev pub segment_of : ℕ → ℕ → List ℕ → Option SegmentKind → Result (Segment × List ℕ) Notice
segment_of width count rest None = Err bad_path
segment_of width count rest (Some kind) =
    if count == 0 || nat_lt (length rest) (count * width) then Err bad_path
    else Ok (record { kind = kind; numbers = numbers_at width count rest }, drop (count * width) rest)

unfoldable pub segment_at : ℕ → List ℕ → Result (Segment × List ℕ) Notice
segment_at width [] = Err bad_path
segment_at width (code ∷ []) = Err bad_path
segment_at width (code ∷ count ∷ rest) = segment_of width count rest (kind_of code)

-- what was read as a segment, behind segments that were read before
abbrev pub behind : List Segment → Result (Segment × List ℕ) Notice → Result (List Segment × List ℕ) Notice
behind front read = read >>= λ x. Ok (front ++ x.0 ∷ [], x.1)

abbrev pub path_at : ℕ → List ℕ → Result (List Segment) Notice
path_at width = items_at (segment_at width)
