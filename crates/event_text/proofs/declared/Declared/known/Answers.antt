use Rattle.std.proofs.Common.{sym, ap, subst}
use Rattle.bgp_attr.specs.Speakers.{IsProfileOf}
use Rattle.event_text.specs.Declarations.{Declaration}
use Rattle.event_text.proofs.declared.Declared.known.Goals as goal

pub returns-clause-family : goal.returns-clause-family
returns-clause-family g c = sym (ap (λ (d : Declaration). d.v6) c.self.view_is)

pub returns-clause-profile : goal.returns-clause-profile
returns-clause-profile g c = subst (λ (d : Declaration). IsProfileOf g.F.Family.V6 d.profile) c.self.view_is c.self.invariant.1
