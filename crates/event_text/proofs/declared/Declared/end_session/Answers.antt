use Rattle.std.proofs.Common.{subst, sym, ◌∙◌, ap, map, arith}
use Rattle.event_text.specs.Declarations.{IsCounted, ended_at, IsDeclaration, IsDeclaredBy}
use Rattle.event_text.proofs.Sessions.{counted_ended, refilled}
use Rattle.event_text.proofs.DeclarationLemmas.{end_kept}
use Rattle.event_text.proofs.declared.Declared.end_session.Goals as goal

pub invariant_of-self : goal.invariant_of-self
invariant_of-self g c =
    let e = refilled c.self.inside.peers.len c.end_at.new.peers c.self.inside.peers.items (omega (arith, c.self.inside.peers.ok.0)) (sym c.self.inside.peers.ok.0) ∙ c.end_at.ensures ∙ ap (map (ended_at c.args.number)) c.as_mut_slice.ensures.value in
    (subst IsCounted (sym e) (counted_ended c.self.inside.peers.items c.args.number c.self.invariant.0), c.self.invariant.1)

pub returns-clause-kept : goal.returns-clause-kept
returns-clause-kept g c =
    λ declared.
    let e = refilled c.self.inside.peers.len c.end_at.new.peers c.self.inside.peers.items (omega (arith, c.self.inside.peers.ok.0)) (sym c.self.inside.peers.ok.0) ∙ c.end_at.ensures ∙ ap (map (ended_at c.args.number)) c.as_mut_slice.ensures.value in
    let before = subst IsDeclaration (sym c.self.view_is) declared in
    subst (IsDeclaredBy g.F.Family.V6 c.self.inside.profile c.self.inside.speaker) (sym e) (end_kept (record { v6 = g.F.Family.V6; profile = c.self.inside.profile; speaker = c.self.inside.speaker; peers = c.self.inside.peers.items }) c.args.number before)
