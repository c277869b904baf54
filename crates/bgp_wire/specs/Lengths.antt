-- How many octets are sent: those of the one spelling, also where a number doesn't fit its field. An AS number has as many octets as
-- the width says, and the count of a segment has one (RFC 4271, section 4.3).
use Rattle.std.specs.Prelude.{ℕ, ◌+◌, List, [], ◌∷◌, length, Bool, nat_lt, if◌then◌else◌}
use Rattle.byteorder.specs.Endian.{big_bytes}
use Rattle.addr4.specs.Prefixes.{AddressPrefix}
use Rattle.bgp_attr.specs.Attributes.{Attrs}
use Rattle.bgp_wire.specs.Spelling.{sent_attributes, octets_of, update_octets}
use Rattle.bgp_wire.specs.Readable.{announcing}

-- of an attribute by the length of its value: flags, a type and a length of one octet, or of two above 255
abbrev pub spelled_length : ℕ → ℕ
spelled_length size = if nat_lt 255 size then size + 4 else size + 3

-- what stands before the value of an attribute of so many octets
abbrev pub head_octets : ℕ → ℕ → ℕ → List ℕ
head_octets flags kind size = if nat_lt 255 size then (flags + 16) ∷ kind ∷ big_bytes 2 size else flags ∷ kind ∷ size ∷ []

-- of all attributes of a family's routes, but for the prefixes in MP_REACH_NLRI
unfoldable pub attributes_length : Bool → Bool → Attrs → ℕ
attributes_length v6 as4 a = length (octets_of (sent_attributes v6 as4 a []))

-- of the UPDATE that announces one prefix
unfoldable pub announcement_length : Bool → Bool → AddressPrefix → Attrs → ℕ
announcement_length v6 as4 n a = length (update_octets v6 as4 (announcing n a))
