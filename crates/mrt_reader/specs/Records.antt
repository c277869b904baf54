-- An MRT file is records, one after the other (RFC 6396, section 2).
use Rattle.std.specs.Prelude.{◌≡◌, ℕ, ◌<◌, List, ◌++◌, length, slice_index, drop}
use Rattle.byteorder.specs.Endian.{big_number}

-- a record: its header, which is timestamp, type, subtype and length, and so many octets
pub record Record : Type 0 where
  pub head : List ℕ
  pub body : List ℕ

-- the number that so many octets from a place are, the highest first
abbrev pub number_at : ℕ → ℕ → List ℕ → ℕ
number_at n i octets = big_number n (drop i octets)

-- the fields of a header
abbrev pub kind_in : List ℕ → ℕ
kind_in head = number_at 2 4 head

abbrev pub subtype_in : List ℕ → ℕ
subtype_in head = number_at 2 6 head

abbrev pub length_in : List ℕ → ℕ
length_in head = number_at 4 8 head

abbrev pub octets_of : Record → List ℕ
octets_of r = r.head ++ r.body

-- they are bytes
abbrev pub AreBytes : List ℕ → Type 0
AreBytes octets = (i : ℕ) → slice_index octets i < 256

-- a header has 12 octets, and its length counts those behind it
pub record IsRecord (r : Record) : Type 0 where
  pub head : length r.head ≡ 12
  pub body : length r.body ≡ length_in r.head
  pub bytes : AreBytes r.head × AreBytes r.body

-- no whole record stands at the front of these octets
abbrev pub HoldNone : List ℕ → Type 0
HoldNone octets = (r : Record) (more : List ℕ) → IsRecord r → octets ≡ octets_of r ++ more → ⊥
