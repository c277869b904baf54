use Rattle.std.proofs.Common.{◌∙◌, ap}
use Rattle.exit_side.specs.Tasks.{first_lagging}
use Rattle.exit_side.specs.Exits.{Exited}
use Rattle.exit_side.proofs.TaskLemmas.{first_that_lags, have_readers, entries_of}
use Rattle.exit_side.proofs.exits.Exits.first_held.Goals as goal

pub first_lagging-requires : goal.first_lagging-requires
first_lagging-requires g c = record { live = have_readers c.args.self.now c.self.inside.profile c.self.inside.queue c.self.inside.chains c.self.view_is c.requires.sound }

pub returns : goal.returns
returns g c best is =
    let m = c.self.inside.chains in
    c.first_lagging.ensures.first ∙ ap (λ (e : Exited). first_lagging e.queue c.args.has_best c.args.p m.entries) c.self.view_is
    ∙ first_that_lags c.args.self.now c.the_best_row_tells.ensures best c.args.p c.args.has_best is m.entries
    (entries_of c.args.self.now c.self.inside.profile c.self.inside.queue m c.self.view_is c.first_lagging.ensures.ordered)
