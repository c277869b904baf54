use Rattle.std.proofs.Common.{subst, sym}
use Rattle.event_text.specs.Declarations.{IsDeclaration}
use Rattle.event_text.proofs.FileLemmas.{ipv6_kept}
use Rattle.event_text.proofs.declared.Declared.set_ipv6.Goals as goal

pub returns-clause-kept : goal.returns-clause-kept
returns-clause-kept g c =
    λ declared.
    let before = subst IsDeclaration (sym c.self.view_is) declared in
    ipv6_kept (record { v6 = g.F.Family.V6; profile = c.self.inside.profile; speaker = c.self.inside.speaker; peers = c.self.inside.peers.items }) before
