use Rattle.std.proofs.Common.{◌∙◌, sym, ap}
use Rattle.exit_side.specs.Exits.{Exited, busy_by}
use Rattle.exit_side.proofs.HeldLemmas.{held}
use Rattle.exit_side.proofs.TaskLemmas.{live_in, works_in}
use Rattle.exit_side.proofs.exits.Exits.has_work.Goals as goal

pub busy-requires : goal.busy-requires
busy-requires g c =
    live_in c.args.self.now c.self.inside.queue c.args.number c.in-Some.chain.now (ap (λ (e : Exited). e.queue) c.self.view_is) c.requires.sound
    (sym (c.in-Some.ensures.value ∙ held c.self.inside.profile c.self.inside.queue c.self.inside.chains c.args.self.now c.self.view_is c.args.number))

pub returns-in-Some : goal.returns-in-Some
returns-in-Some g c =
    c.busy.ensures
    ∙ works_in c.args.self.now c.self.inside.queue c.args.number c.in-Some.chain.now (ap (λ (e : Exited). e.queue) c.self.view_is)
    (sym (c.in-Some.ensures.value ∙ held c.self.inside.profile c.self.inside.queue c.self.inside.chains c.args.self.now c.self.view_is c.args.number))

pub returns-in-None : goal.returns-in-None
returns-in-None g c =
    ap (busy_by c.args.self.now.queue) (c.in-None.ensures.value ∙ held c.self.inside.profile c.self.inside.queue c.self.inside.chains c.args.self.now c.self.view_is c.args.number)
