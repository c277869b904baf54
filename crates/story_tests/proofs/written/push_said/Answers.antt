use Rattle.std.proofs.Common.{sym, subst}
use Rattle.bgp_wire.specs.Spelling.{FitsAttrs}
use Rattle.story_tests.proofs.WideLemmas.{wider_attrs}
use Rattle.story_tests.proofs.written.push_said.Goals as goal

pub write_update-requires-clause-fits : goal.write_update-requires-clause-fits
write_update-requires-clause-fits g c = λ a at.
    subst (λ b. FitsAttrs b a) (sym c.has_four_octets.ensures) (wider_attrs c.args.profile.as4 c.args.wide a (c.what_is_readable_fits.ensures g.F.Family.V6 c.args.profile c.args.external a (c.requires.attrs a at)))
