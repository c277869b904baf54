-- What a record says of BGP sessions (RFC 6396, sections 4.4 and 3): types 16 and 17 are BGP4MP and the same with microseconds.
use Rattle.std.specs.Prelude.{ℕ, ◌+◌, ◌*◌, ◌==◌, nat_lt, nat_le, Bool, not, ◌&&◌, ◌||◌, if◌then◌else◌, List, length, drop, false}
use Rattle.addr4.specs.Families.{in_front}
use Rattle.addr4.specs.Hosts.{is_host}
use Rattle.mrt_reader.specs.Records.{Record, number_at, kind_in, subtype_in}
use Rattle.mrt_reader.specs.declared.fields.Sides.{Sides}

-- what a record says of its peer's session
pub data Told : Type 0 where
  -- a state change into Established
  Established : Told
  -- a state change into another state
  Ended : Told
  -- a message of 1 to 4,096 octets
  Message : List ℕ → Told
  -- a message of no octets, or of more
  NoMessage : Told

-- what a record says
pub data Said : Type 0 where
  -- nothing of use here
  Unused : Said
  -- it is of use by its type, but its fields and its length don't agree
  Malformed : Said
  Session : Sides → Told → Said

-- an AS number has four octets in the subtypes with AS4
abbrev pub width_of : Bool → ℕ
width_of as4 = if as4 then 4 else 2

-- the subtypes of a state change and of a message
abbrev pub state_subtype : Bool → ℕ
state_subtype as4 = if as4 then 5 else 0

abbrev pub message_subtype : Bool → ℕ
message_subtype as4 = if as4 then 4 else 1

abbrev pub is_used : Bool → ℕ → ℕ → Bool
is_used as4 kind subtype = (kind == 16 || kind == 17) && (subtype == state_subtype as4 || subtype == message_subtype as4)

-- Where the fields begin: type 17 has four octets of microseconds first.
abbrev pub start_of : ℕ → ℕ
start_of kind = if kind == 17 then 4 else 0

-- Behind the numbers of the peer's and the local AS: the interface and the AFI (2 octets each), from where on the two addresses of IPv4
-- stand (4 octets each), and then the old and the new state (2 each), or the message.
abbrev pub interface_at : Bool → ℕ → ℕ
interface_at as4 kind = start_of kind + 2 * width_of as4

abbrev pub sides_in : Bool → ℕ → List ℕ → Sides
sides_in as4 kind body = record {
  peer_as = number_at (width_of as4) (start_of kind) body;
  local_as = number_at (width_of as4) (start_of kind + width_of as4) body;
  peer = in_front (number_at 4 (interface_at as4 kind + 4) body);
  local = in_front (number_at 4 (interface_at as4 kind + 8) body);
}

-- both sides have an AS number other than 0 and the address of a host
abbrev pub are_speakers : Sides → Bool
are_speakers s = not (s.peer_as == 0) && not (s.local_as == 0) && is_host false s.peer && is_host false s.local

-- state 6 is Established
abbrev pub told_by_state : ℕ → Told
told_by_state new = if new == 6 then Established else Ended

abbrev pub told_by_message : List ℕ → Told
told_by_message octets = if nat_le 1 (length octets) && nat_le (length octets) 4096 then Message octets else NoMessage

abbrev pub told_in : Bool → ℕ → ℕ → List ℕ → Told
told_in as4 kind subtype body =
    if subtype == state_subtype as4 then told_by_state (number_at 2 (interface_at as4 kind + 14) body)
    else told_by_message (drop (interface_at as4 kind + 12) body)

-- a state change ends behind the new state
abbrev pub is_well_sized : Bool → ℕ → ℕ → ℕ → Bool
is_well_sized as4 kind subtype size =
    if subtype == state_subtype as4 then size == interface_at as4 kind + 16
    else nat_le (interface_at as4 kind + 12) size

-- by the fields of IPv4
unfoldable pub said_of_ipv4 : Bool → ℕ → ℕ → List ℕ → Said
said_of_ipv4 as4 kind subtype body =
    if not (is_well_sized as4 kind subtype (length body)) then Malformed
    else if are_speakers (sides_in as4 kind body) then Session (sides_in as4 kind body) (told_in as4 kind subtype body)
    else Unused

-- by the fields up to the AFI, of which 1 is IPv4's
unfoldable pub said_in : Bool → ℕ → ℕ → List ℕ → Said
said_in as4 kind subtype body =
    if not (is_used as4 kind subtype) then Unused
    else if nat_lt (length body) (interface_at as4 kind + 4) then Malformed
    else if number_at 2 (interface_at as4 kind + 2) body == 1 then said_of_ipv4 as4 kind subtype body
    else Unused

-- what a record says; as4 tells which subtypes are of use
abbrev pub said : Bool → Record → Said
said as4 r = said_in as4 (kind_in r.head) (subtype_in r.head) r.body
