-- What peers hear of a step; and what stands between two steps can be printed and read back: the declared peers, each row, live or lost, and the rules of filters.
use Rattle.std.specs.Prelude.{◌≡◌, ℕ, List, Some}
use Rattle.std.specs.List.{AllByRecursion}
use Rattle.bgp_attr.specs.Speakers.{IsProfileOf}
use Rattle.live_state.specs.Heard.{Hears}
use Rattle.exit_laws.specs.Views.{views_of}
use Rattle.exit_laws.specs.Printable.{ArePrintableExits}
use Rattle.nexthop_resolver.specs.declared.rows.Metric.{Metric}
use Rattle.nexthop_resolver.specs.Resolving.{Resolving}
use Rattle.hop_side.specs.Resolvers.{resolver_at}
use Rattle.event_text.specs.Declarations.{Declaration, IsDeclaration}
use Rattle.journal_text.specs.Lines.{Line}
use Rattle.journal_laws.specs.Peers.{neighbours, printing}
use Rattle.journal_laws.specs.Printed.{IsPrinted}
use Rattle.journal_laws.specs.Standing.{AreTablesOf, IsInteriorRow, IsPrintableChain, HaveMetrics, HaveWays}
use Rattle.in_chain.specs.Chains.{Chained}
use Rattle.peer_side.specs.Peers.{chain_at}
use Rattle.rib_route.specs.declared.Proto.{Proto}
use Rattle.rib_tree.specs.Trees.{branch_of}
use Rattle.router_moments.specs.Moments.{Moment}

-- each line can be printed and read back as the network's, whose peers are those that are declared
abbrev pub ArePrinted : Declaration → List Line → Type 0
ArePrinted d said = AllByRecursion (IsPrinted (printing d)) said

-- The octets of the lines, read as the peers read them, lead from what each was sent before to what it was sent then.
abbrev pub IsHeard : Moment → List Line → Moment → Type 0
IsHeard m said m' = Hears m.declared.profile (neighbours m.declared) (views_of m.exits) said (views_of m'.exits)

-- The declarations, whose profile is that of the network's family; each peer's chain, whose rows, live or lost, the peer said; the routes
-- of each protocol, live or lost; the answers about next hops of peers' routes, and of external ones; the changes of `best` that readers
-- haven't taken, and the rows that peers were sent.
pub record IsPrintableMoment (m : Moment) : Type 0 where
  pub family : IsProfileOf m.declared.v6 m.declared.profile
  pub declared : IsDeclaration m.declared
  pub chains : (k : ℕ) (c : Chained) → chain_at k m.chains ≡ Some c → IsPrintableChain m.declared.profile c
  pub interior : (proto : Proto) → AreTablesOf (IsInteriorRow m.declared.v6) (branch_of proto m.tree).tables
  pub hops : (k : ℕ) (s : Resolving Metric) → resolver_at k m.hops ≡ Some s → HaveMetrics s
  pub ways : HaveWays m.declared.v6 m.rib.forwarding
  pub exits : ArePrintableExits m.declared.profile (printing m.declared) m.exits
