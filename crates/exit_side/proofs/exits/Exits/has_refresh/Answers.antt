use Rattle.std.proofs.Common.{◌∙◌, ap}
use Rattle.exit_side.specs.Exits.{refreshing}
use Rattle.exit_side.proofs.HeldLemmas.{held}
use Rattle.exit_side.proofs.exits.Exits.has_refresh.Goals as goal

pub returns-in-Some : goal.returns-in-Some
returns-in-Some g c =
    c.refreshing.ensures
    ∙ ap refreshing (c.in-Some.ensures.value ∙ held c.self.inside.profile c.self.inside.queue c.self.inside.chains c.args.self.now c.self.view_is c.args.number)

pub returns-in-None : goal.returns-in-None
returns-in-None g c =
    ap refreshing (c.in-None.ensures.value ∙ held c.self.inside.profile c.self.inside.queue c.self.inside.chains c.args.self.now c.self.view_is c.args.number)
