-- Prefixes of either family on the wire (RFC 4271, section 4.3; RFC 4760, section 5).
use Rattle.std.specs.Prelude.{◌≡◌, ℕ, ◌+◌, ◌/◌, ◌≤◌, List, [], ◌∷◌, length, take, drop, Result, Ok, Err, Bool, nat_lt, if◌then◌else◌}
use Rattle.byteorder.specs.Endian.{big_number}
use Rattle.addr4.specs.Blocks.{width, masked_to}
use Rattle.addr4.specs.Families.{bits_of}
use Rattle.addr4.specs.Prefixes.{AddressPrefix}
use Rattle.bgp_wire.specs.declared.notice.Notice.{Notice}
use Rattle.bgp_wire.specs.Items.{AreItems, items_at}

-- the fewest octets that hold so many bits
abbrev pub octets_for : ℕ → ℕ
octets_for bits = (bits + 7) / 8

-- octets as an address masked to a length: whatever the family, they are the first of 16, of which the missing ones are 0
abbrev pub masked : List ℕ → ℕ → AddressPrefix
masked octets bits = record { address = masked_to width (big_number 16 octets) bits; length = bits }

-- a length in bits, no more than an address of the family has, and the fewest octets that hold so many
pub record IsPrefix (v6 : Bool) (octets : List ℕ) (p : AddressPrefix) : Type 0 where
  pub bits : List ℕ
  pub spelled : octets ≡ p.length ∷ bits
  pub short : p.length ≤ bits_of v6
  pub fewest : length bits ≡ octets_for p.length
  pub value : p ≡ masked bits p.length

abbrev pub ArePrefixes : Bool → List ℕ → List AddressPrefix → Type 0
ArePrefixes v6 = AreItems (IsPrefix v6)

-- the first prefix and what follows it, or this fault
unfoldable pub prefix_at : Bool → Notice → List ℕ → Result (AddressPrefix × List ℕ) Notice
prefix_at v6 bad [] = Err bad
prefix_at v6 bad (bits ∷ rest) =
    if nat_lt (bits_of v6) bits then Err bad
    else if nat_lt (length rest) (octets_for bits) then Err bad
    else Ok (masked (take (octets_for bits) rest) bits, drop (octets_for bits) rest)

abbrev pub prefixes_at : Bool → Notice → List ℕ → Result (List AddressPrefix) Notice
prefixes_at v6 bad = items_at (prefix_at v6 bad)
