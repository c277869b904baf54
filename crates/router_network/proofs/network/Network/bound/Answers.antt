use Rattle.router_moments.proofs.Common.{◌∙◌, ap, ℕ, List, ◌+◌, IfOk-weaker, DeclaredPeer}
use Rattle.std.proofs.Common.{length}
use Rattle.router_moments.proofs.ReadingLemmas.{bound_is}
use Rattle.router_network.proofs.network.Network.bound.Goals as goal

pub returns : goal.returns
returns g c =
    IfOk-weaker c.most_turns.result _ _
    (bound_is c.args.self.now _ (length c.peers.result.now) c.in_ok-rows.field-0 c.in_ok-rows-2.rows c.in_ok-known.field-0 c.known-2.result c.in_ok-hops.hops c.most_unread.result c.self.view_is (ap (λ (l : List DeclaredPeer). length l) c.peers.ensures)
    c.in_ok-rows.ensures (c.in_ok-rows-2.ensures ∙ ap (λ (n : ℕ). c.in_ok-rows.field-0 + n) c.rows-2.ensures.rows) c.in_ok-known.ensures c.known-2.ensures c.in_ok-hops.ensures c.most_unread.ensures)
    c.most_turns.ensures
