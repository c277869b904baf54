-- Two families of addresses in one arithmetic. An address of either is a number of 128 bits, whose first bits are its own: IPv4's 192.0.2.1
-- is 0xc0000201 * 2 ^ 96. Order, covering, masks and longest match have no family. Texts, octets and hosts do: there it is a value, whether
-- it is IPv6.
use Rattle.std.specs.Prelude.{◌≡◌, ℕ, ◌*◌, ◌/◌, ◌%◌, ◌^◌, ◌<◌, ◌≤◌, Bool, true, false}
use Rattle.std.proofs.lemmas.Nat.{shl-shr}
use Rattle.addr4.specs.Blocks.{width}
use Rattle.addr4.specs.Prefixes.{AddressPrefix, IsMasked}

-- how many bits an address of the family has
abbrev pub bits_of : Bool → ℕ
bits_of false = 32
bits_of true = 128

-- an address of 32 bits as one of 128: its bits come first
abbrev pub in_front : ℕ → ℕ
in_front n = n * 2 ^ 96

-- and back
pub in_front_back : (n : ℕ) → in_front n / 2 ^ 96 ≡ n
in_front_back n = shl-shr n 96

-- a number that is an IPv4 address: behind its 32 bits stand zeros
abbrev pub IsIpv4 : ℕ → Type 0
IsIpv4 a = (a < 2 ^ 128) × (a % 2 ^ 96 ≡ 0)

-- a number that is an address of the family
abbrev pub IsAddress : Bool → ℕ → Type 0
IsAddress false a = IsIpv4 a
IsAddress true a = a < 2 ^ 128

-- a prefix of the family: no more bits count than its addresses have
pub record IsPrefixOf (v6 : Bool) (p : AddressPrefix) : Type 0 where
  pub masked : IsMasked width p
  pub fits : p.address < 2 ^ 128
  pub short : p.length ≤ bits_of v6

-- a prefix of IPv4
abbrev pub IsIpv4Prefix : AddressPrefix → Type 0
IsIpv4Prefix = IsPrefixOf false
