use Rattle.std.proofs.Common.{◌≡◌, None, subst, sym, ◌∙◌, ap, map, arith}
use Rattle.event_text.specs.declared.event.Event.TheVariants as events
use Rattle.event_text.specs.Declarations.{refusal, IsCounted, begun_at, IsDeclaration, IsDeclaredBy}
use Rattle.event_text.proofs.Sessions.{All-from_counted, counted_begun, refilled}
use Rattle.event_text.proofs.DeclarationLemmas.{session_kept}
use Rattle.event_text.proofs.declared.Declared.begin_session.Goals as goal

pub begin_at-requires : goal.begin_at-requires
begin_at-requires g c = All-from_counted c.as_mut_slice.result.now (subst IsCounted (sym c.as_mut_slice.ensures.value) c.self.invariant.0)

pub invariant_of-self : goal.invariant_of-self
invariant_of-self g c =
    let refused = subst (λ d. refusal d (events.Up c.args.number) ≡ None) (sym c.self.view_is) c.requires in
    let e = refilled c.self.inside.peers.len c.begin_at.new.peers c.self.inside.peers.items (omega (arith, c.self.inside.peers.ok.0)) (sym c.self.inside.peers.ok.0) ∙ c.begin_at.ensures ∙ ap (map (begun_at c.args.number)) c.as_mut_slice.ensures.value in
    (subst IsCounted (sym e) (counted_begun g.F.Family.V6 c.self.inside.profile c.self.inside.speaker c.self.inside.peers.items c.args.number c.self.invariant.0 refused), c.self.invariant.1)

pub returns-clause-kept : goal.returns-clause-kept
returns-clause-kept g c =
    λ declared.
    let refused = subst (λ d. refusal d (events.Up c.args.number) ≡ None) (sym c.self.view_is) c.requires in
    let e = refilled c.self.inside.peers.len c.begin_at.new.peers c.self.inside.peers.items (omega (arith, c.self.inside.peers.ok.0)) (sym c.self.inside.peers.ok.0) ∙ c.begin_at.ensures ∙ ap (map (begun_at c.args.number)) c.as_mut_slice.ensures.value in
    let before = subst IsDeclaration (sym c.self.view_is) declared in
    subst (IsDeclaredBy g.F.Family.V6 c.self.inside.profile c.self.inside.speaker) (sym e) (session_kept (record { v6 = g.F.Family.V6; profile = c.self.inside.profile; speaker = c.self.inside.speaker; peers = c.self.inside.peers.items }) c.args.number before refused)
