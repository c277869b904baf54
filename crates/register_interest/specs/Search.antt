-- The rows in order, the descent to the longest row, and the search for the largest subnet.
use Rattle.std.specs.Prelude.{◌≡◌, ◌≢◌, ℕ, ◌-◌, ◌/◌, ◌^◌, ◌≤◌, ◌<◌, Option, Some, None}
use Rattle.std.specs.BTreeMap.{BTreeMap}
use Rattle.std.specs.BTreeMap.Range.{IsLeBy}
use Rattle.std.specs.FinMap.{FinMap, from_entries}
use Rattle.addr4.specs.Prefixes.{AddressPrefix, prefix_cmp, ComesBefore, IsMasked, Holds, block}
use Rattle.link_change.specs.Rows.{Rows}
use Rattle.register_interest.specs.Covers.{IsFree}

-- the rows of std's map
abbrev pub rows_in : {V : Type 0} → BTreeMap AddressPrefix V → FinMap prefix_cmp V
rows_in m = from_entries m.entries

-- the answer is the last row at or before the bound, with its prefix
abbrev pub IsLastTo : {V : Type 0} → Rows V → AddressPrefix → Option (AddressPrefix × V) → Type 0
IsLastTo rows bound None = (q : AddressPrefix) → IsLeBy prefix_cmp q bound → rows q ≡ None
IsLastTo rows bound (Some r) = IsLeBy prefix_cmp r.0 bound × (rows r.0 ≡ Some r.1) × ((q : AddressPrefix) → IsLeBy prefix_cmp q bound → ComesBefore r.0 q → rows q ≡ None)

-- no row of more than n bits holds the address
abbrev pub IsNoneAbove : {V : Type 0} → ℕ → Rows V → ℕ → ℕ → Type 0
IsNoneAbove width rows a n = (q : AddressPrefix) → IsMasked width q → Holds width q a → n < q.length → rows q ≡ None

-- no row has more bits than this
abbrev pub AreShort : {V : Type 0} → ℕ → Rows V → Type 0
AreShort most rows = (p : AddressPrefix) → most < p.length → rows p ≡ None

-- how many bits the match has, or none
abbrev pub length_of : Option AddressPrefix → ℕ
length_of None = 0
length_of (Some m) = m.length

-- the match, if there is one, has at most so many bits
abbrev pub IsBeneath : Option AddressPrefix → ℕ → Type 0
IsBeneath None n = Unit {0}
IsBeneath (Some m) n = m.length ≤ n

-- no prefix of the address with fewer bits is free
abbrev pub IsNoneBelow : {V : Type 0} → ℕ → Rows V → ℕ → Option AddressPrefix → ℕ → Type 0
IsNoneBelow width rows a m n = (k : ℕ) → k < n → IsFree width rows m (block width a k) → ⊥
