use Rattle.std.proofs.Common.{◌∙◌}
use Rattle.exit_side.proofs.HeldLemmas.{held}
use Rattle.exit_side.proofs.exits.Exits.chain.Goals as goal

pub returns : goal.returns
returns g c = c.get.ensures.value ∙ held c.self.inside.profile c.self.inside.queue c.self.inside.chains c.args.self.now c.self.view_is c.args.number
