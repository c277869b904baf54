-- Numbers, identifiers, addresses and prefixes as texts.
use Rattle.std.specs.Prelude.{ℕ, ◌+◌, ◌-◌, ◌*◌, ◌/◌, ◌%◌, ◌^◌, ◌++◌, Bool, true, false, not, ◌&&◌, ◌||◌, length, replicate, slice_index, List, [], ◌∷◌, map, Option, Some, None, option_map, option_and_then, nat_lt, nat_le, ◌==◌, if◌then◌else◌, suc}
use Rattle.std.specs.Char.{is_ascii_digit, is_digit}
use Rattle.std.specs.Str.Parse.{digits_value}
use Rattle.std.specs.Int.{w32, to_be_bytes, from_be_bytes}
use Rattle.std.specs.List.{slice_split, join_with_byte, list_all}
use Rattle.std.specs.Fmt.{decimal}
use Rattle.std.specs.Net.Text.{groups_text}
use Rattle.addr4.specs.Blocks.{width, masked_to}
use Rattle.addr4.specs.Families.{bits_of, in_front}
use Rattle.addr4.specs.Prefixes.{AddressPrefix}

-- digits, at least one, and no leading zero but in `0`
abbrev pub is_numeral : List ℕ → Bool
is_numeral text = not (length text == 0) && (length text == 1 || not (slice_index text 0 == 48)) && list_all is_ascii_digit text

-- the value of digits, where it is below the bound
abbrev pub value_below : ℕ → List ℕ → Option ℕ
value_below bound digits = if nat_lt (digits_value 10 digits) bound then Some (digits_value 10 digits) else None

-- the number below the bound that a text spells
unfoldable pub number_below : ℕ → List ℕ → Option ℕ
number_below bound text = if is_numeral text then value_below bound text else None

-- a number of the event language
abbrev pub number_of : List ℕ → Option ℕ
number_of text = number_below (2 ^ 32) text

-- the parts of a text that stand between bytes of this value
abbrev pub parts : ℕ → List ℕ → List (List ℕ)
parts separator text = slice_split (λ b. b == separator) text

-- the parts that follow a first one: none where the text ended
abbrev pub parts_after : ℕ → Option (List ℕ) → List (List ℕ)
parts_after separator None = []
parts_after separator (Some rest) = parts separator rest

-- four octets, the highest first
abbrev pub id_from_octets : Option ℕ → Option ℕ → Option ℕ → Option ℕ → Option ℕ
id_from_octets (Some a) (Some b) (Some c) (Some d) = Some (from_be_bytes w32 (a ∷ b ∷ c ∷ d ∷ []))
id_from_octets a b c d = None

abbrev pub id_from_parts : List (List ℕ) → Option ℕ
id_from_parts (a ∷ b ∷ c ∷ d ∷ []) = id_from_octets (number_below 256 a) (number_below 256 b) (number_below 256 c) (number_below 256 d)
id_from_parts other = None

-- the identifier that a text spells: four octets with dots between them
unfoldable pub id_of : List ℕ → Option ℕ
id_of text = id_from_parts (parts 46 text)

-- numbers with dots between them
abbrev pub dotted : List ℕ → List ℕ
dotted numbers = join_with_byte 46 (map decimal numbers)

-- the text of an identifier
unfoldable pub id_text : ℕ → List ℕ
id_text n = dotted (to_be_bytes w32 n)

-- ---- IPv6 (RFC 4291, section 2.2, without the form that ends in an IPv4 address)
-- the eight groups of an address, of 16 bits each, the highest first
abbrev pub groups_of : ℕ → List ℕ
groups_of a =
    a / 2 ^ 112 % 65536 ∷ a / 2 ^ 96 % 65536 ∷ a / 2 ^ 80 % 65536 ∷ a / 2 ^ 64 % 65536
    ∷ a / 2 ^ 48 % 65536 ∷ a / 2 ^ 32 % 65536 ∷ a / 2 ^ 16 % 65536 ∷ a % 65536 ∷ []

-- the text of an IPv6 address: its groups in hex digits of lower case without leading zeros, colons between them, and no `::`
unfoldable pub addr6_text : ℕ → List ℕ
addr6_text a = groups_text (groups_of a)

-- one to four hex digits, of either case
abbrev pub is_group : List ℕ → Bool
is_group word = nat_le 1 (length word) && nat_le (length word) 4 && list_all (λ c. is_digit c 16) word

-- the groups that stand in a text, with colons between them: none in an empty one
abbrev pub groups_in : List ℕ → Option (List ℕ)
groups_in [] = Some []
groups_in (c ∷ cs) = if list_all is_group (parts 58 (c ∷ cs)) then Some (map (digits_value 16) (parts 58 (c ∷ cs))) else None

-- what stands in front of the first `::`, and what behind it
abbrev pub around : List ℕ → Option (List ℕ × List ℕ)
around [] = None
around (c ∷ []) = None
around (c ∷ d ∷ cs) = if c == 58 && d == 58 then Some ([], cs) else option_map (λ sides. (c ∷ sides.0, sides.1)) (around (d ∷ cs))

-- groups as a number, the highest first
abbrev pub from_groups : List ℕ → ℕ
from_groups [] = 0
from_groups (g ∷ gs) = g * 65536 ^ length gs + from_groups gs

-- the address of eight groups
abbrev pub if_eight : List ℕ → Option ℕ
if_eight groups = if length groups == 8 then Some (from_groups groups) else None

-- `::` is a group that is 0, and as many more as are missing
abbrev pub filled : Option (List ℕ) → Option (List ℕ) → Option ℕ
filled (Some front) (Some back) = if_eight (front ++ 0 ∷ replicate (7 - length front - length back) 0 ++ back)
filled front back = None

abbrev pub addr6_from : List ℕ → Option (List ℕ × List ℕ) → Option ℕ
addr6_from text None = option_and_then if_eight (groups_in text)
addr6_from text (Some sides) = filled (groups_in sides.0) (groups_in sides.1)

-- the IPv6 address that a text spells: eight groups, or fewer with one `::`
unfoldable pub addr6_of : List ℕ → Option ℕ
addr6_of text = addr6_from text (around text)

-- ---- either
-- the text of an address of the family
abbrev pub addr_text : Bool → ℕ → List ℕ
addr_text false a = id_text (a / 2 ^ 96)
addr_text true a = addr6_text a

-- the address of the family that a text spells
abbrev pub addr_of : Bool → List ℕ → Option ℕ
addr_of false text = option_map in_front (id_of text)
addr_of true text = addr6_of text

-- an address masked to a length
abbrev pub address_prefix_of : Option ℕ → Option ℕ → Option AddressPrefix
address_prefix_of (Some address) (Some length) = Some (record { address = masked_to width address length; length = length })
address_prefix_of address length = None

abbrev pub prefix_from_parts : Bool → List (List ℕ) → Option AddressPrefix
prefix_from_parts v6 (address ∷ length ∷ []) = address_prefix_of (addr_of v6 address) (number_below (suc (bits_of v6)) length)
prefix_from_parts v6 other = None

-- the prefix of the family that a text spells: an address, a slash, a length; bits beyond the length are masked away
unfoldable pub prefix_of : Bool → List ℕ → Option AddressPrefix
prefix_of v6 text = prefix_from_parts v6 (parts 47 text)

-- the text of a prefix of the family
unfoldable pub prefix_text : Bool → AddressPrefix → List ℕ
prefix_text v6 p = addr_text v6 p.address ++ 47 ∷ decimal p.length
