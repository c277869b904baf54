use Rattle.router_moments.proofs.Common.{sym, subst, ◌≡◌, not, Profile, peer_at, Says}
use Rattle.event_text.specs.Declarations.{Declaration}
use Rattle.router_network.proofs.StepLemmas.{bgp_ignored, heard_up}
use Rattle.std.proofs.Common.{Some, None}
use Rattle.router_moments.proofs.HeardRows.{message_heard}
use Rattle.live_state.proofs.AdmittedLemmas.{bgp_there}
use Rattle.router_core.proofs.steps.receive.Goals as goal

pub unreachable-requires : goal.unreachable-requires
unreachable-requires g c =
    bgp_there c.args.network.now.declared c.args.number c.args.octets.now c.requires.admitted
    (subst (λ (d : Declaration). peer_at c.args.number d.peers ≡ None) c.declared.ensures (sym c.in_default.ensures))

pub hear-requires-clause-heard : goal.hear-requires-clause-heard
hear-requires-clause-heard g c =
    message_heard c.args.network.now.declared.profile (not c.in-Some.peer.words.internal) c.args.octets.now c.in_ok-message.message c.requires.formed.1.bytes
    (subst (λ (f : Profile). Says f c.in-Some.peer c.args.octets.now c.in_ok-message.message) c.profile.ensures.value c.in_ok-message.ensures.says)

pub returns-clause-steps : goal.returns-clause-steps
returns-clause-steps g c =
    let there : peer_at c.args.number c.args.network.now.declared.peers ≡ Some c.in-Some.peer = subst (λ (d : Declaration). peer_at c.args.number d.peers ≡ Some c.in-Some.peer) c.declared.ensures (sym c.in-Some.ensures) in
    heard_up c.args.number c.in-Some.peer c.args.network.now c.hear.new.network c.args.octets.now c.in_ok-message.message c.args.journal.now c.hear.new.journal there c.if-not-peer.false
    (subst (λ (f : Profile). Says f c.in-Some.peer c.args.octets.now c.in_ok-message.message) c.profile.ensures.value c.in_ok-message.ensures.says) c.in_ok-hear.ensures.hears

pub returns-then-not-peer-clause-steps : goal.returns-then-not-peer-clause-steps
returns-then-not-peer-clause-steps g c =
    let there : peer_at c.args.number c.args.network.now.declared.peers ≡ Some c.in-Some.peer = subst (λ (d : Declaration). peer_at c.args.number d.peers ≡ Some c.in-Some.peer) c.declared.ensures (sym c.in-Some.ensures) in
    bgp_ignored c.ignored.result c.args.number c.args.octets.now c.in-Some.peer c.args.network.now c.args.journal.now c.ignored.new.journal c.requires.stands there c.if-not-peer.true c.ignored.ensures
