use Rattle.std.proofs.Common.{◌∙◌}
use Rattle.exit_side.proofs.TaskLemmas.{entries_of}
use Rattle.exit_side.proofs.RefreshLemmas.{first_on, none_on}
use Rattle.exit_side.proofs.exits.Exits.first_refresh.Goals as goal

pub returns-clause-first : goal.returns-clause-first
returns-clause-first g c =
    c.first_refreshing.ensures.first
    ∙ first_on c.args.self.now c.self.inside.chains.entries (entries_of c.args.self.now c.self.inside.profile c.self.inside.queue c.self.inside.chains c.self.view_is c.first_refreshing.ensures.ordered)

pub returns-clause-none : goal.returns-clause-none
returns-clause-none g c =
    none_on c.args.self.now c.self.inside.chains.entries c.first_refreshing.result
    (entries_of c.args.self.now c.self.inside.profile c.self.inside.queue c.self.inside.chains c.self.view_is c.first_refreshing.ensures.ordered) c.first_refreshing.ensures.first
