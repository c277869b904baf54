use Rattle.std.proofs.Common.{◌≡◌, ◌++◌, ◌∷◌, [], false, ◌≤◌, None, arith, subst, sym, ap, ◌∙◌}
use Rattle.event_text.specs.declared.event.Event.TheVariants as events
use Rattle.event_text.specs.WellFormed.{IsWellFormed}
use Rattle.event_text.specs.Declarations.{refusal, IsCounted, words_of, IsDeclaration, IsDeclaredBy}
use Rattle.event_text.proofs.Sessions.{addable, counted_push}
use Rattle.event_text.proofs.DeclarationLemmas.{peer_kept}
use Rattle.event_text.proofs.declared.Declared.add_peer.Goals as goal

pub overflow_cast-number : goal.overflow_cast-number
overflow_cast-number g c =
    let refused = subst (λ d. refusal d (events.Peer c.args.number c.args.words c.args.client) ≡ None) (sym c.self.view_is) c.requires in
    let few : c.args.number ≤ 64 = (addable g.F.Family.V6 c.self.inside.profile c.self.inside.speaker c.self.inside.peers.items c.args.number c.args.words c.args.client refused).0 in
    omega arith

pub invariant_of-self-2 : goal.invariant_of-self-2
invariant_of-self-2 g c =
    let refused = subst (λ d. refusal d (events.Peer c.args.number c.args.words c.args.client) ≡ None) (sym c.self.view_is) c.requires in
    let a = addable g.F.Family.V6 c.self.inside.profile c.self.inside.speaker c.self.inside.peers.items c.args.number c.args.words c.args.client refused in
    (subst IsCounted (sym c.in_ok-push.ensures.items) (counted_push c.self.inside.peers.items _ c.self.invariant.0 a.1 (omega arith)), c.self.invariant.1)

pub returns-clause-kept : goal.returns-clause-kept
returns-clause-kept g c =
    λ declared ok.
    let refused = subst (λ d. refusal d (events.Peer c.args.number c.args.words c.args.client) ≡ None) (sym c.self.view_is) c.requires in
    let before = subst IsDeclaration (sym c.self.view_is) declared in
    let words = subst (λ d. IsWellFormed d.v6 d.profile (events.Peer c.args.number c.args.words c.args.client)) (sym c.self.view_is) ok in
    let e : c.push.new.self.items ≡ c.self.inside.peers.items ++ record { words = words_of c.self.inside.speaker c.args.number c.args.words c.args.client; session = 0; up = false } ∷ [] =
    c.in_ok-push.ensures.items
    ∙ ap (λ b. c.self.inside.peers.items ++ record { words = record { number = c.args.number; asn = c.args.words.asn; id = c.args.words.id; addr = c.args.words.addr; internal = b; client = c.args.client }; session = 0; up = false } ∷ []) c.is_internal-internal.ensures in
    subst (IsDeclaredBy g.F.Family.V6 c.self.inside.profile c.self.inside.speaker) (sym e) (peer_kept (record { v6 = g.F.Family.V6; profile = c.self.inside.profile; speaker = c.self.inside.speaker; peers = c.self.inside.peers.items }) c.args.number c.args.words c.args.client before refused words)
