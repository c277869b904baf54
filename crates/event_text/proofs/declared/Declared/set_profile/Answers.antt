use Rattle.std.proofs.Common.{◌≡◌, None, subst, sym}
use Rattle.event_text.specs.Declarations.{IsDeclaration}
use Rattle.event_text.proofs.DeclarationLemmas.{profile_kept}
use Rattle.event_text.proofs.declared.Declared.set_profile.Goals as goal

pub returns-clause-kept : goal.returns-clause-kept
returns-clause-kept g c =
    λ declared none.
    let before = subst IsDeclaration (sym c.self.view_is) declared in
    let undeclared = subst (λ d. d.speaker ≡ None) (sym c.self.view_is) none in
    profile_kept (record { v6 = g.F.Family.V6; profile = c.self.inside.profile; speaker = c.self.inside.speaker; peers = c.self.inside.peers.items }) c.args.profile before undeclared
