-- Lines that the program can print, beside the ranges of their numbers: what is asked of the values in them.
use Rattle.std.specs.Prelude.{◌≡◌, ℕ, ◌^◌, ◌<◌, ◌≤◌, Bool, List, [], ◌∷◌, length, Option, Some, None}
use Rattle.std.specs.List.{AllByRecursion}
use Rattle.addr4.specs.Families.{IsAddress}
use Rattle.bgp_attr.specs.declared.attrs.Aggregator.{Aggregator}
use Rattle.bgp_attr.specs.Attributes.{Attrs}
use Rattle.bgp_attr.specs.declared.speaker.Neighbour.{Neighbour}
use Rattle.bgp_attr.specs.Routes.{Route}
use Rattle.bgp_wire.specs.Lengths.{attributes_length}
use Rattle.journal_text.specs.Texts.{sender_number}
use Rattle.journal_text.specs.Lines.{Value}
use Rattle.journal_text.specs.declared.value.Value.TheVariants as values
use Rattle.journal_text.specs.Lines.{Entry}
use Rattle.journal_text.specs.declared.entry.Entry.TheVariants.{Add, Delete, Replace, Asked}
use Rattle.journal_text.specs.Lines.{Line}
use Rattle.journal_text.specs.declared.line.Line.TheVariants.{Journal, Out, Note, Row}
use Rattle.journal_check.specs.Laws.{IsValue, IsLine}

-- whose texts: of which family the lines of a network are, which is said by whether it is IPv6, and its declared peers by number
pub record Printing : Type 0 where
  pub v6 : Bool
  pub peers : ℕ → Option Neighbour

-- ---- values that are short

-- A message of at most 4,096 octets has room for the attributes of the family's routes, with AS numbers of two octets or of four (RFC 4271,
-- section 4.1).
abbrev pub HasRoom : Bool → Attrs → Type 0
HasRoom v6 a = (as4 : Bool) × (attributes_length v6 as4 a ≤ 4096)

abbrev pub HasShortText : Bool → Value → Type 0
HasShortText v6 (values.Attrs a) = HasRoom v6 a
HasShortText v6 (values.Route r) = HasRoom v6 r.attrs
HasShortText v6 other = Unit {0}

-- ---- values that their texts tell apart

abbrev pub IsAddressIfAny : Bool → Option ℕ → Type 0
IsAddressIfAny v6 None = Unit {0}
IsAddressIfAny v6 (Some addr) = IsAddress v6 addr

abbrev pub IsIdIfAny : Option ℕ → Type 0
IsIdIfAny None = Unit {0}
IsIdIfAny (Some id) = id < 2 ^ 32

abbrev pub HasAddress : Option Aggregator → Type 0
HasAddress None = Unit {0}
HasAddress (Some g) = g.addr < 2 ^ 32

-- a next hop of the family; identifiers have four octets in each
pub record HasAddresses (v6 : Bool) (a : Attrs) : Type 0 where
  pub next_hop : IsAddress v6 a.next_hop
  pub aggregator : HasAddress a.aggregator
  pub originator : IsIdIfAny a.reflection.originator
  pub clusters : AllByRecursion (λ c. c < 2 ^ 32) a.reflection.clusters

-- The route is from the peer of the number that its text has; number 0 stands for no peer.
abbrev pub IsFromOneOf : (ℕ → Option Neighbour) → Route → Type 0
IsFromOneOf peers r = r.from ≡ peers (sender_number r.from)

-- all that its text has not in full: the addresses are such, and the sender is known by its number
abbrev pub IsTold : Printing → Value → Type 0
IsTold p (values.Attrs a) = HasAddresses p.v6 a
IsTold p (values.Route r) = HasAddresses p.v6 r.attrs × IsFromOneOf p.peers r
IsTold p (values.Interior r) = IsAddressIfAny p.v6 r.gateway
IsTold p (values.External r) = IsAddress p.v6 r.next_hop
IsTold p (values.FibRow r) = IsAddressIfAny p.v6 r.gateway

-- in its ranges, and told by its text
pub record IsWellTold (p : Printing) (value : Value) : Type 0 where
  pub ranges : IsValue value
  pub told : IsTold p value

-- a value that can be printed
pub record IsPrintable (p : Printing) (value : Value) : Type 0 where
  pub well_told : IsWellTold p value
  pub short : HasShortText p.v6 value

-- ---- lines

abbrev pub answer_values : Option Value → List Value
answer_values None = []
answer_values (Some value) = value ∷ []

-- the values in an entry
abbrev pub values_of : Entry Value → List Value
values_of (Add link p new) = new ∷ []
values_of (Delete link p old) = old ∷ []
values_of (Replace link p old new) = old ∷ new ∷ []
values_of (Asked link p row) = answer_values row
values_of other = []

-- the values in a line
abbrev pub values_in : Line → List Value
values_in (Journal entry) = values_of entry
values_in (Row link p value) = value ∷ []
values_in other = []

-- the octets of the message in a line
abbrev pub octets_in : Line → List ℕ
octets_in (Out k octets) = octets
octets_in (Note k octets) = octets
octets_in other = []

-- its links have numbers from 1, its numbers are in their ranges, and messages have room for what they hold
pub record IsShortLine (v6 : Bool) (line : Line) : Type 0 where
  pub ranges : IsLine v6 line
  pub values : AllByRecursion (HasShortText v6) (values_in line)
  pub octets : length (octets_in line) ≤ 4096

-- and its values are told by their texts
pub record IsPrinted (p : Printing) (line : Line) : Type 0 where
  pub short : IsShortLine p.v6 line
  pub told : AllByRecursion (IsTold p) (values_in line)
