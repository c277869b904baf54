-- Laws of moments, for the crates above.
use Rattle.std.specs.Prelude.{◌≡◌, ◌+◌, ◌≤◌, Bool, false, [], None}
use Rattle.addr4.specs.Prefixes.{AddressPrefix}
use Rattle.journal_text.specs.declared.link.Task.{Task}
use Rattle.peer_side.specs.Peers.{rows_in}
use Rattle.hop_side.specs.Resolvers.{known_in}
use Rattle.rib_tree.specs.Trees.{tree_count}
use Rattle.rib_exit.specs.Exits.{known_in as external_known}
use Rattle.router_moments.specs.Moments.{Moment, first_moment}
use Rattle.router_moments.specs.Phases.{unread_if, external_beyond}
use Rattle.router_moments.specs.Stands.{Stands, AllHaveExits}
use Rattle.router_moments.specs.Turns.{has_work}
use Rattle.router_moments.specs.Holding.{holds_up_at, first_held}
use Rattle.router_moments.specs.Scratch.{IsExactAtRest, Tells}

-- What holds between two steps holds before the first.
abbrev pub FirstStands : Type 0
FirstStands = (v6 : Bool) → Stands (first_moment v6)

-- At any moment where each peer that is up has an exit, at each prefix, each link that no work holds up there is what the live state alone
-- asks for.
abbrev pub RowsAtRestAreExact : Type 0
RowsAtRestAreExact = (m : Moment) → Stands m → AllHaveExits m → IsExactAtRest m

-- A task without work holds up nothing.
abbrev pub OnlyWorkHoldsUp : Type 0
OnlyWorkHoldsUp = (m : Moment) (task : Task) (p : AddressPrefix) → has_work task m ≡ false → holds_up_at task m p ≡ false

-- The first task that holds up a prefix tells whether it is settled.
abbrev pub FirstHeldTells : Type 0
FirstHeldTells = (m : Moment) → Stands m → AllHaveExits m → (p : AddressPrefix) → Tells m p (first_held m p)

-- Each known next hop is named by a row. So peers' next hops are no more than the peers' rows; and those of external routes, where the
-- forwarding side has read all, are no more than the rows of peers and of protocols.
pub record NextHopsAreFew (m : Moment) : Type 0 where
  pub peers : known_in m.hops ≤ rows_in m.chains
  pub external : unread_if m.exits.queue m.reader ≡ [] → external_known m.rib ≤ rows_in m.chains + tree_count m.tree

-- Where the forwarding side has read all, no more rows stand on `ebgp` and `ibgp` than peers have, live or lost: each is of the best route
-- there, which a peer sent. So they bound the turns of external next hops, of which each row takes two at most.
abbrev pub ExternalRowsAreFew : Type 0
ExternalRowsAreFew = (m : Moment) → Stands m → unread_if m.exits.queue m.reader ≡ [] → external_beyond m.rib None ≤ rows_in m.chains

abbrev pub KnownNextHopsAreFew : Type 0
KnownNextHopsAreFew = (m : Moment) → Stands m → NextHopsAreFew m
