use Rattle.router_moments.proofs.Common.{sym, subst, ℕ, with_chains, MaySettle, SettlesPeer}
use Rattle.router_network.specs.contracts.network.Network.{the_view}
use Rattle.router_moments.proofs.StandLemmas.{peers_sound}
use Rattle.router_moments.proofs.PeerTurns.{peer_took, peer_settles, settled_same}
use Rattle.router_network.proofs.ChainShifts.{taken_as, turned_above, turned_has_shifted, turned_informed}
use Rattle.router_network.specs.Informed.{KnowsAbove}
use Rattle.router_network.proofs.network.Network.turn_peer.Goals as goal

pub turn-requires : goal.turn-requires
turn-requires g c = record { sound = peers_sound c.args.self.now _ c.self.view_is c.requires.stands }

pub settle_peer-requires-clause-may : goal.settle_peer-requires-clause-may
settle_peer-requires-clause-may g c = subst (λ (k : ℕ). MaySettle k (with_chains (the_view g.row.F g.F.Family g.F.Clone c.self.inside) c.turn.new.self)) (sym c.peer_of.ensures)
    (peer_settles c.args.task c.args.self.now _ c.turn.new.self c.args.journal.now c.turn.new.journal c.in_ok-turn.turn c.in_default.not-Nothing c.self.view_is c.requires.stands c.in_ok-turn.ensures)

pub returns-clause-taken : goal.returns-clause-taken
returns-clause-taken g c =
    peer_took c.args.task c.args.self.now _ c.turn.new.self c.settle_peer.new.self c.args.journal.now c.turn.new.journal c.settle_peer.new.journal c.flush.new.self c.in_ok-turn.turn c.in_default.not-Nothing c.self.view_is c.requires.peers
    c.in_ok-turn.ensures (settled_same _ _ _ _ _ c.settle_peer.new.self c.turn.new.journal c.settle_peer.new.journal c.peer_of.ensures c.sent_of.ensures c.in_ok-settle_peer.ensures.settles) c.in_ok-flush.ensures.ok

pub settle_peer-requires-clause-above : goal.settle_peer-requires-clause-above
settle_peer-requires-clause-above g c =
    let t = taken_as c.args.task c.sent_of.result c.in_ok-turn.turn _ c.turn.new.self c.args.journal.now c.turn.new.journal c.in_default.not-Nothing c.sent_of.ensures c.in_ok-turn.ensures in
    subst (λ (k : ℕ). KnowsAbove k c.sent_of.result c.args.contests.now (with_chains (the_view g.row.F g.F.Family g.F.Clone c.self.inside) c.turn.new.self)) (sym c.peer_of.ensures)
    (turned_above c.args.task c.sent_of.result c.next_lost-lost.result c.args.self.now (the_view g.row.F g.F.Family g.F.Clone c.self.inside) c.turn.new.self t.0 c.self.view_is c.requires.stands t.1 c.next_lost-lost.ensures c.args.contests.now c.requires.informed)

pub forget-requires : goal.forget-requires
forget-requires g c =
    let t = taken_as c.args.task c.sent_of.result c.in_ok-turn.turn _ c.turn.new.self c.args.journal.now c.turn.new.journal c.in_default.not-Nothing c.sent_of.ensures c.in_ok-turn.ensures in
    turned_has_shifted c.args.task c.sent_of.result c.next_lost-lost.result c.args.self.now (the_view g.row.F g.F.Family g.F.Clone c.self.inside) c.turn.new.self t.0 c.self.view_is c.requires.stands t.1 c.next_lost-lost.ensures c.args.contests.now c.settle_peer.new.contests c.requires.informed
    c.in_ok-settle_peer.ensures.counts

pub returns-clause-informed : goal.returns-clause-informed
returns-clause-informed g c =
    let t = taken_as c.args.task c.sent_of.result c.in_ok-turn.turn _ c.turn.new.self c.args.journal.now c.turn.new.journal c.in_default.not-Nothing c.sent_of.ensures c.in_ok-turn.ensures in
    let settles = subst (λ (k : ℕ). SettlesPeer k c.sent_of.result (with_chains (the_view g.row.F g.F.Family g.F.Clone c.self.inside) c.turn.new.self) c.settle_peer.new.self c.in_ok-settle_peer.ensures.settles.0) c.peer_of.ensures c.in_ok-settle_peer.ensures.settles.2 in
    turned_informed c.args.task c.sent_of.result c.next_lost-lost.result c.args.self.now (the_view g.row.F g.F.Family g.F.Clone c.self.inside) c.turn.new.self t.0 c.self.view_is c.requires.stands t.1 c.next_lost-lost.ensures c.args.contests.now c.settle_peer.new.contests c.forget.new.contests
    c.settle_peer.new.self c.in_ok-settle_peer.ensures.settles.0 c.requires.informed settles c.in_ok-settle_peer.ensures.counts c.in_ok-settle_peer.ensures.known c.in_ok-forget.ensures.counts c.in_ok-forget.ensures.known
