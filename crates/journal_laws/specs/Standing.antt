-- What stands in tables and chains and can be printed: each row, live or lost, the numbers of the losses, the rules of filters, and what
-- is known of next hops.
use Rattle.std.specs.Prelude.{◌≡◌, ℕ, Bool, true, not, List, Option, Some, None}
use Rattle.std.specs.List.{AllByRecursion}
use Rattle.std.specs.FinMap as tables
use Rattle.nexthop_known.specs.Hops.{Hop}
use Rattle.nexthop_known.specs.Hops.{Hops}
use Rattle.nexthop_resolver.specs.declared.rows.Metric.{Metric}
use Rattle.nexthop_resolver.specs.Ways.{Outlet, Way}
use Rattle.nexthop_resolver.specs.Resolving.{Resolving}
use Rattle.addr4.specs.Families.{IsPrefixOf}
use Rattle.addr4.specs.Prefixes.{AddressPrefix}
use Rattle.bgp_attr.specs.Attributes.{Attrs}
use Rattle.bgp_attr.specs.declared.speaker.Neighbour.{Neighbour}
use Rattle.bgp_attr.specs.declared.speaker.Profile.{Profile}
use Rattle.bgp_wire.specs.declared.message.Update.{Update}
use Rattle.bgp_wire.specs.declared.message.Message.TheVariants as messages
use Rattle.bgp_wire.specs.Grammar.{Reads}
use Rattle.bgp_wire.specs.Readable.{AreOctets, said_of}
use Rattle.policy_rules.specs.Rules.{Rule}
use Rattle.policy_rules.specs.Ranges.{AreRules}
use Rattle.pass_core.specs.Passed.{Walked}
use Rattle.journal_text.specs.Names.{IsNameNumber}
use Rattle.journal_text.specs.Values.{interior_value}
use Rattle.journal_text.specs.Lines.{Value}
use Rattle.rib_route.specs.Ifaces.{is_iface_name}
use Rattle.rib_route.specs.Rows.{Interior}
use Rattle.journal_check.specs.Laws.{IsNumberIfAny}
use Rattle.loss_chain.specs.Tables.{Tables}
use Rattle.loss_chain.specs.Rows.{IsRow}
use Rattle.in_chain.specs.Chains.{Chained}
use Rattle.journal_laws.specs.Printed.{IsPrintable, IsAddressIfAny}

-- a row of a family that can be printed at its prefix, whoever the peers are
pub record IsPrintableRow (v6 : Bool) (p : AddressPrefix) (value : Value) : Type 0 where
  pub prefix : IsPrefixOf v6 p
  pub printed : (peers : ℕ → Option Neighbour) → IsPrintable (record { v6 = v6; peers = peers }) value

abbrev pub IsInteriorRow : Bool → AddressPrefix → Interior → Type 0
IsInteriorRow v6 p row = IsPrintableRow v6 p (interior_value row)

-- some octets of a peer, external or internal, said these attributes of prefixes of the network's family (RFC 4271, section 4.3; RFC 4760,
-- section 3)
abbrev pub WasHeard : Profile → Bool → Attrs → Type 0
WasHeard profile external a = (octets : List ℕ) × (u : Update) × AreOctets octets × Reads profile external octets (messages.Update u) × ((said_of profile.second u).attrs ≡ Some a)

-- such attributes, at a prefix
abbrev pub IsHeardRow : Profile → Bool → AddressPrefix → Attrs → Type 0
IsHeardRow profile external p a = IsPrefixOf profile.second p × WasHeard profile external a

-- each row, live or lost, is such, and the numbers of the losses are in their range
pub record AreTablesOf {R : Type 0} (Is : AddressPrefix → R → Type 0) (t : Tables R) : Type 0 where
  pub rows : (p : AddressPrefix) (row : R) → IsRow t p row → Is p row
  pub losses : AllByRecursion (λ d. IsNameNumber d.number) t.deletions

-- rules of a network of the family, of a file with such AS numbers
abbrev pub AreRulesIfAny : Bool → Bool → Option (List Rule) → Type 0
AreRulesIfAny v6 as4 None = Unit {0}
AreRulesIfAny v6 as4 (Some rules) = AreRules v6 as4 rules

abbrev pub AreRulesOfWalk : Bool → Bool → Option (Walked (List Rule)) → Type 0
AreRulesOfWalk v6 as4 None = Unit {0}
AreRulesOfWalk v6 as4 (Some w) = AreRules v6 as4 w.next × AreRulesIfAny v6 as4 w.waiting

-- Each row of a chain was heard of its peer, read by this profile, and the rules of its filter are in their ranges: those in force, those
-- of a walk, and those that wait.
pub record IsPrintableChain (profile : Profile) (c : Chained) : Type 0 where
  pub tables : AreTablesOf (IsHeardRow profile (not c.peer.internal)) c.incoming.tables
  pub in_force : AreRules profile.second profile.as4 c.filter.in_force
  pub walk : AreRulesOfWalk profile.second profile.as4 c.filter.walk

-- the answers about each next hop, that in force and the fresh one, are such
abbrev pub AreAnswers : {A : Type 0} → (A → Type 0) → Hops A → Type 0
AreAnswers {A} Is known = (a : ℕ) (h : Hop A) → tables.get known a ≡ Some h → Is h.in_force × Is h.fresh

-- their metrics are in their range
abbrev pub IsMetric : Metric → Type 0
IsMetric m = IsNumberIfAny m.igp

abbrev pub HaveMetrics : Resolving Metric → Type 0
HaveMetrics s = AreAnswers IsMetric s.known

-- a gateway is an address of the family, and an interface has a name
abbrev pub IsOutletIfAny : Bool → Option Outlet → Type 0
IsOutletIfAny v6 None = Unit {0}
IsOutletIfAny v6 (Some o) = (is_iface_name o.iface ≡ true) × IsAddressIfAny v6 o.gateway

abbrev pub IsWay : Bool → Way → Type 0
IsWay v6 w = IsOutletIfAny v6 w.outlet

abbrev pub HaveWays : Bool → Resolving Way → Type 0
HaveWays v6 s = AreAnswers (IsWay v6) s.known
