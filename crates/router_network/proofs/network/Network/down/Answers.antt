use Rattle.router_moments.proofs.Common.{sym, subst, ◌≡◌, peer_at, Moment}
use Rattle.std.proofs.lemmas.Bool.{not-false, not-true}
use Rattle.live_state.proofs.AdmittedLemmas.{down_there}
use Rattle.std.proofs.Common.{Some, None}
use Rattle.router_network.proofs.StepLemmas.{down_ignored, lost_down}
use Rattle.router_network.proofs.network.Network.down.Goals as goal

pub unreachable-requires : goal.unreachable-requires
unreachable-requires g c =
    down_there c.args.self.now.declared c.args.number c.requires.admitted
    (subst (λ (m : Moment). peer_at c.args.number m.declared.peers ≡ None) c.self.view_is (sym c.in_default.ensures))

pub returns-clause-steps : goal.returns-clause-steps
returns-clause-steps g c =
    let there : peer_at c.args.number c.args.self.now.declared.peers ≡ Some c.in-Some.peer = subst (λ (m : Moment). peer_at c.args.number m.declared.peers ≡ Some c.in-Some.peer) c.self.view_is (sym c.in-Some.ensures) in
    lost_down c.args.number c.in-Some.peer c.args.self.now c.lose.new.self c.args.journal.now c.lose.new.journal there (not-false c.in-Some.peer.up c.if-not-peer.false) c.in_ok-lose.ensures.loses

pub returns-then-not-peer-clause-steps : goal.returns-then-not-peer-clause-steps
returns-then-not-peer-clause-steps g c =
    let there : peer_at c.args.number c.args.self.now.declared.peers ≡ Some c.in-Some.peer = subst (λ (m : Moment). peer_at c.args.number m.declared.peers ≡ Some c.in-Some.peer) c.self.view_is (sym c.in-Some.ensures) in
    down_ignored c.ignored.result c.args.number c.in-Some.peer c.args.self.now c.args.journal.now c.ignored.new.journal c.requires.stands there (not-true c.in-Some.peer.up c.if-not-peer.true) c.ignored.ensures
