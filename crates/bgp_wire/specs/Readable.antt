-- What can be said in an UPDATE so that a peer reads it as it was said.
use Rattle.std.specs.Prelude.{◌≡◌, ℕ, ◌+◌, ◌<◌, ◌≤◌, ◌/◌, ◌^◌, List, [], ◌∷◌, length, All, Some, None, Bool, true, false, not, ◌&&◌}
use Rattle.std.specs.Option.{ForSome}
use Rattle.addr4.specs.Families.{IsAddress, IsPrefixOf}
use Rattle.addr4.specs.Hosts.{is_host}
use Rattle.addr4.specs.Prefixes.{AddressPrefix}
use Rattle.bgp_attr.specs.Attributes.{Attrs}
use Rattle.bgp_attr.specs.declared.path.Segment.{Segment}
use Rattle.bgp_attr.specs.declared.speaker.Profile.{Profile}
use Rattle.bgp_wire.specs.declared.message.Update.{Update}
use Rattle.bgp_wire.specs.declared.message.Message.{Message}
use Rattle.bgp_wire.specs.declared.message.Message.TheVariants as messages
use Rattle.bgp_wire.specs.Paths.{width_of}
use Rattle.bgp_wire.specs.Said.{Said, nothing_said}
use Rattle.bgp_wire.specs.Attributes.{is_old_form}
use Rattle.bgp_wire.specs.Routes.{is_unrecognized, AscendsFrom}

-- a segment of 1 to 255 AS numbers, each of which has its octets
pub record IsReadableSegment (as4 : Bool) (s : Segment) : Type 0 where
  pub some : 0 < length s.numbers
  pub few : length s.numbers ≤ 255
  pub numbers : All (λ n. n < 256 ^ width_of as4) s.numbers

-- an address of the family that a host may have
pub record IsHost (v6 : Bool) (address : ℕ) : Type 0 where
  pub of : IsAddress v6 address
  pub host : is_host v6 address ≡ true

-- who reads ORIGINATOR_ID and CLUSTER_LIST: a route reflector, from an internal peer
abbrev pub reads_reflection : Profile → Bool → Bool
reads_reflection p external = p.reflect && not external

-- attributes of the family's routes that a peer reads as they are, which is external or internal to who sends them. From an external one a peer reads no LOCAL_PREF,
-- and nothing that reflectors added
pub record IsReadable (v6 : Bool) (p : Profile) (external : Bool) (a : Attrs) : Type 0 where
  pub path : All (IsReadableSegment p.as4) a.path
  pub next_hop : IsHost v6 a.next_hop
  pub med : ForSome a.med (λ n. n < 2 ^ 32)
  pub local_pref : ForSome a.local_pref (λ n. (external ≡ false) × (n < 2 ^ 32))
  pub aggregator : ForSome a.aggregator (λ g. (g.asn < 256 ^ width_of p.as4) × (g.addr < 2 ^ 32))
  pub originator : ForSome a.reflection.originator (λ n. (reads_reflection p external ≡ true) × (n < 2 ^ 32))
  pub clusters : All (λ n. (reads_reflection p external ≡ true) × (n < 2 ^ 32)) a.reflection.clusters
  pub order : AscendsFrom 0 a.unrecognized
  pub types : All (λ u. (is_unrecognized p u.kind ≡ true) × (is_old_form p u.kind ≡ false)) a.unrecognized

-- what an UPDATE says of a family
abbrev pub said_of : Bool → Update → Said
said_of false u = u.first
said_of true u = u.second

-- an UPDATE that says this of a family, and nothing of the other one
abbrev pub said_in : Bool → Said → Update
said_in false s = record { first = s; second = nothing_said }
said_in true s = record { first = nothing_said; second = s }

-- one prefix is withdrawn
abbrev pub withdrawing : AddressPrefix → Said
withdrawing n = record { withdrawn = n ∷ []; announced = []; attrs = None }

abbrev pub withdrawal : Bool → AddressPrefix → Update
withdrawal v6 n = said_in v6 (withdrawing n)

-- one prefix is announced
abbrev pub announcing : AddressPrefix → Attrs → Said
announcing n a = record { withdrawn = []; announced = n ∷ []; attrs = Some a }

abbrev pub announcement : Bool → AddressPrefix → Attrs → Update
announcement v6 n a = said_in v6 (announcing n a)

-- what is said of a family is only what a peer reads as it is said
pub record IsReadableSaid (v6 : Bool) (p : Profile) (external : Bool) (s : Said) : Type 0 where
  pub withdrawn : All (IsPrefixOf v6) s.withdrawn
  pub announced : All (IsPrefixOf v6) s.announced
  pub attrs : ForSome s.attrs (IsReadable v6 p external)

-- and so it is of both
abbrev pub IsReadableUpdate : Profile → Bool → Update → Type 0
IsReadableUpdate p external u = (v6 : Bool) → IsReadableSaid v6 p external (said_of v6 u)

abbrev pub IsReadableMessage : Profile → Bool → Message → Type 0
IsReadableMessage p external (messages.Update u) = IsReadableUpdate p external u
IsReadableMessage p external other = Unit {0}

-- octets, as numbers
abbrev pub AreOctets : List ℕ → Type 0
AreOctets bytes = All (λ b. b < 256) bytes

-- one prefix in all is withdrawn or announced
abbrev pub HasOnePrefix : Said → Type 0
HasOnePrefix s = length s.withdrawn + length s.announced ≡ 1

-- the family is spoken with this profile
abbrev pub Speaks : Profile → Bool → Type 0
Speaks p v6 = v6 ≡ true → p.v6 ≡ true
