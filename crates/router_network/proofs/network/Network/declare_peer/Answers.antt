use Rattle.router_moments.proofs.Common.{sym, ◌∙◌, ap, peer_at, Moment}
use Rattle.router_moments.proofs.StandLemmas.{peers_sound}
use Rattle.router_moments.proofs.HopTurns.{hops_sound}
use Rattle.router_moments.proofs.PeerLemmas.{resolver_absent, peer_absent, peer_after, not_added, chain_absent, new_number, peer_declared}
use Rattle.router_network.proofs.network.Network.declare_peer.Goals as goal

pub unreachable-requires : goal.unreachable-requires
unreachable-requires g c =
    peer_after c.args.self.now.declared c.args.number c.args.words c.args.client c.requires.admitted
    (sym c.in_default.is ∙ c.speaker.ensures ∙ ap (λ (m : Moment). m.declared.speaker) c.self.view_is)

pub unreachable-requires-in_default-peer : goal.unreachable-requires-in_default-peer
unreachable-requires-in_default-peer g c =
    let absent = ap (λ (m : Moment). peer_at c.args.number m.declared.peers) c.self.view_is ∙ peer_absent c.args.self.now.declared c.args.number c.args.words c.args.client c.requires.admitted in
    not_added c.self.inside.above.declared c.add_peer.new.self c.args.number c.args.words c.args.client absent c.in_ok-add_peer.ensures.ok (sym c.in_default-peer.is ∙ c.peer.ensures)

pub begin-requires-clause-sound : goal.begin-requires-clause-sound
begin-requires-clause-sound g c = peers_sound c.args.self.now _ c.self.view_is c.requires.stands

pub begin-requires-clause-absent : goal.begin-requires-clause-absent
begin-requires-clause-absent g c = chain_absent c.args.self.now _ c.args.number c.args.words c.args.client c.self.view_is c.requires.stands c.requires.admitted

pub begin-requires-clause-own : goal.begin-requires-clause-own
begin-requires-clause-own g c = new_number c.args.self.now _ c.add_peer.new.self c.args.number c.args.words c.args.client c.in-Some-peer.peer c.self.view_is c.requires.admitted c.in_ok-add_peer.ensures.ok c.in-Some-peer.ensures

pub begin-requires-2-clause-sound : goal.begin-requires-2-clause-sound
begin-requires-2-clause-sound g c = hops_sound c.args.self.now _ c.self.view_is c.requires.stands

pub begin-requires-2-clause-absent : goal.begin-requires-2-clause-absent
begin-requires-2-clause-absent g c =
    resolver_absent c.args.self.now _ c.add_peer.new.self c.args.number c.args.words c.args.client c.in-Some-peer.peer c.self.view_is c.requires.stands c.requires.admitted c.in_ok-add_peer.ensures.ok c.in-Some-peer.ensures

pub returns : goal.returns
returns g c =
    peer_declared c.args.self.now _ c.in-Some.me c.args.number c.args.words c.args.client c.add_peer.new.self c.in-Some-peer.peer c.begin.new.self c.begin-2.new.self c.args.journal.now c.begin.new.journal c.begin-2.new.journal c.self.view_is c.requires.stands c.requires.admitted c.requires.formed
    c.in-Some.ensures c.in_ok-add_peer.ensures.ok c.in-Some-peer.ensures c.in_ok-begin.ensures.after c.in_ok-begin.ensures.lines c.in_ok-begin.ensures.leads c.in_ok-begin.ensures.sound
    (record { after = c.in_ok-begin-2.ensures.after; lines = c.in_ok-begin-2.ensures.lines; begins = record { leads = c.in_ok-begin-2.ensures.leads; counted = c.in_ok-begin-2.ensures.counted; agree = c.in_ok-begin-2.ensures.agree; sound = c.in_ok-begin-2.ensures.sound } })
