-- The longest row that holds an address, and the largest subnet with that answer (NSDI 2005, section 5.2.1).
use Rattle.std.specs.Prelude.{◌≡◌, ℕ, zero, suc, ◌≤◌, ◌<◌, Option, Some, None}
use Rattle.addr4.specs.Prefixes.{AddressPrefix, block, IsMasked, Covers, Overlaps, Holds}
use Rattle.link_change.specs.Rows.{Rows}

-- the row with its prefix, or else the other
abbrev pub keyed_or : {V : Type 0} → AddressPrefix → Option V → Option (AddressPrefix × V) → Option (AddressPrefix × V)
keyed_or p None other = other
keyed_or p (Some v) other = Some (p, v)

-- of the prefixes of the address with at most n bits the longest that has a row
abbrev pub longest_to : {V : Type 0} → ℕ → Rows V → ℕ → ℕ → Option (AddressPrefix × V)
longest_to width rows a zero = keyed_or (block width a 0) (rows (block width a 0)) None
longest_to width rows a (suc n) = keyed_or (block width a (suc n)) (rows (block width a (suc n))) (longest_to width rows a n)

-- the longest row that holds the address, with its prefix
unfoldable pub longest : {V : Type 0} → ℕ → Rows V → ℕ → Option (AddressPrefix × V)
longest width rows a = longest_to width rows a width

-- no row holds the address, or this one does and no longer one
abbrev pub IsLongest : {V : Type 0} → ℕ → Rows V → ℕ → Option (AddressPrefix × V) → Type 0
IsLongest width rows a None = (q : AddressPrefix) → IsMasked width q → Holds width q a → rows q ≡ None
IsLongest width rows a (Some r) = IsMasked width r.0 × Holds width r.0 a × (rows r.0 ≡ Some r.1) × ((q : AddressPrefix) → IsMasked width q → Holds width q a → r.0.length < q.length → rows q ≡ None)

-- the prefix of a match
abbrev pub matched : {V : Type 0} → Option (AddressPrefix × V) → Option AddressPrefix
matched None = None
matched (Some r) = Some r.0

-- the subnet is covered by the match, and no row that overlaps it is longer than the match; none at all overlaps it where there is no match
abbrev pub IsFree : {V : Type 0} → ℕ → Rows V → Option AddressPrefix → AddressPrefix → Type 0
IsFree width rows None s = (q : AddressPrefix) → IsMasked width q → Overlaps width s q → rows q ≡ None
IsFree width rows (Some m) s = Covers width m s × ((q : AddressPrefix) → IsMasked width q → Overlaps width s q → m.length < q.length → rows q ≡ None)

-- the largest such subnet that holds the address
pub record IsSubnet {V : Type 0} (width : ℕ) (rows : Rows V) (a : ℕ) (m : Option AddressPrefix) (s : AddressPrefix) : Type 0 where
  pub masked : IsMasked width s
  pub holds : Holds width s a
  pub free : IsFree width rows m s
  pub largest : (t : AddressPrefix) → IsMasked width t → Holds width t a → IsFree width rows m t → s.length ≤ t.length

-- the longest row, and the largest subnet with that answer
pub record IsCover {V : Type 0} (width : ℕ) (rows : Rows V) (a : ℕ) (m : Option (AddressPrefix × V)) (s : AddressPrefix) : Type 0 where
  pub longest_is : m ≡ longest width rows a
  pub subnet : IsSubnet width rows a (matched m) s

-- the match is none or not longer than p
abbrev pub IsWithin : AddressPrefix → Option AddressPrefix → Type 0
IsWithin p None = Unit {0}
IsWithin p (Some m) = m.length ≤ p.length

-- a change at p reaches an interest in the subnet with this match
abbrev pub IsHit : ℕ → AddressPrefix → AddressPrefix → Option AddressPrefix → Type 0
IsHit width p s m = Overlaps width s p × IsWithin p m

-- each address of the subnet has this match
abbrev pub Stands : {V : Type 0} → ℕ → Rows V → AddressPrefix → Option AddressPrefix → Type 0
Stands width rows s m = (a : ℕ) → Holds width s a → matched (longest width rows a) ≡ m
