use Rattle.std.proofs.Common.{◌∙◌}
use Rattle.exit_side.proofs.TaskLemmas.{first_with_work, none_left, have_readers, entries_of, queue_of}
use Rattle.exit_side.proofs.exits.Exits.first_busy.Goals as goal

pub first_of-requires : goal.first_of-requires
first_of-requires g c = record { live = have_readers c.args.self.now c.self.inside.profile c.self.inside.queue c.self.inside.chains c.self.view_is c.requires.sound }

pub returns-clause-first : goal.returns-clause-first
returns-clause-first g c =
    let m = c.self.inside.chains in
    queue_of c.args.self.now c.self.inside.profile c.self.inside.queue m c.first_of.result c.self.view_is c.first_of.ensures.first
    ∙ first_with_work c.args.self.now m.entries (entries_of c.args.self.now c.self.inside.profile c.self.inside.queue m c.self.view_is c.first_of.ensures.ordered)

pub returns-clause-none : goal.returns-clause-none
returns-clause-none g c =
    let m = c.self.inside.chains in
    none_left c.args.self.now m.entries c.first_of.result (entries_of c.args.self.now c.self.inside.profile c.self.inside.queue m c.self.view_is c.first_of.ensures.ordered)
    (queue_of c.args.self.now c.self.inside.profile c.self.inside.queue m c.first_of.result c.self.view_is c.first_of.ensures.first)
