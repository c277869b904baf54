-- What is live at a moment, as `live_state` defines it: the live routes of peers and protocols, the latest rules of each filter, and
-- the protocols that were redistributed last.
use Rattle.rib_tree.specs.Trees.{branch_of}
use Rattle.pass_core.specs.Passed.{present}
use Rattle.redist.specs.Protocols.{has}
use Rattle.peer_side.specs.Peers.{chain_at, routes_of, rules_of}
use Rattle.live_state.specs.Lives.{LiveState}
use Rattle.router_moments.specs.Moments.{Moment, rules_to}

abbrev pub live_state : Moment → LiveState
live_state m = record {
  declared = m.declared;
  routes = λ k. routes_of (chain_at k m.chains);
  rules = λ k. rules_of (chain_at k m.chains);
  outgoing = λ k. rules_to k m.outgoing;
  interior = λ proto. (branch_of proto m.tree).tables.live;
  losses = λ proto. (branch_of proto m.tree).losses;
  redistributed = has (present m.redist);
}
