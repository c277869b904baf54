use Rattle.router_moments.proofs.Common.{sym, subst, ◌+◌, ◌<◌}
use Rattle.router_moments.specs.Moments.{Cored}
use Rattle.router_moments.proofs.CoreLemmas.{few_losses, moment_stands, moment_exits, core_acts, core_stepped, exact_after, readers_of}
use Rattle.router_core.proofs.router.Core.step.Goals as goal

pub step-requires-clause-few : goal.step-requires-clause-few
step-requires-clause-few g c =
    few_losses c.args.self.now c.self.inside.network c.self.inside.events c.self.inside.failed c.self.view_is c.if-self.false c.requires.stands
    (subst (λ (x : Cored). x.events < 4294967295) (sym c.self.view_is) c.requires.few)

pub step-requires-clause-stands : goal.step-requires-clause-stands
step-requires-clause-stands g c = moment_stands c.args.self.now c.self.inside.network c.self.inside.events c.self.inside.failed c.self.view_is c.if-self.false c.requires.stands

pub step-requires-clause-exits : goal.step-requires-clause-exits
step-requires-clause-exits g c = moment_exits c.args.self.now c.self.inside.network c.self.inside.events c.self.inside.failed c.self.view_is c.if-self.false c.requires.stands

pub returns-clause-acts : goal.returns-clause-acts
returns-clause-acts g c =
    core_acts c.args.self.now c.self.inside.network c.self.inside.events c.self.inside.failed c.self.view_is c.if-self.false c.requires.stands c.args.event c.in_ok-turns.turns c.step.new.network
    c.args.journal.now c.step.new.journal c.requires.few c.requires.admitted c.requires.formed c.declarations_follow.ensures c.in_ok-turns.ensures.steps

pub returns-clause-stands : goal.returns-clause-stands
returns-clause-stands g c =
    core_stepped c.args.self.now c.self.inside.network c.self.inside.events c.self.inside.failed c.self.view_is c.if-self.false c.requires.stands c.args.event c.in_ok-turns.turns c.step.new.network
    c.args.journal.now c.step.new.journal c.requires.few c.requires.admitted c.requires.formed c.declarations_follow.ensures c.in_ok-turns.ensures.steps

pub returns-clause-exact : goal.returns-clause-exact
returns-clause-exact g c =
    exact_after c.rows_at_rest_are_exact.ensures c.step.new.network (c.self.inside.events + 1)
    (core_stepped c.args.self.now c.self.inside.network c.self.inside.events c.self.inside.failed c.self.view_is c.if-self.false c.requires.stands c.args.event c.in_ok-turns.turns c.step.new.network
    c.args.journal.now c.step.new.journal c.requires.few c.requires.admitted c.requires.formed c.declarations_follow.ensures c.in_ok-turns.ensures.steps)

pub invariant_of-self-2 : goal.invariant_of-self-2
invariant_of-self-2 g c =
    λ _. (
      readers_of c.step.new.network
          (core_stepped c.args.self.now c.self.inside.network c.self.inside.events c.self.inside.failed c.self.view_is c.if-self.false c.requires.stands c.args.event c.in_ok-turns.turns c.step.new.network
          c.args.journal.now c.step.new.journal c.requires.few c.requires.admitted c.requires.formed c.declarations_follow.ensures c.in_ok-turns.ensures.steps).stands,
      c.in_ok-turns.ensures.informed,
    )

pub step-requires-clause-informed : goal.step-requires-clause-informed
step-requires-clause-informed g c = (c.self.invariant c.if-self.false).1
