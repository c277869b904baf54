use Rattle.router_moments.proofs.CoreLemmas.{core_comes, core_turned, exact_after, readers_of}
use Rattle.router_core.proofs.router.Core.unit.Goals as goal

pub returns-clause-stands : goal.returns-clause-stands
returns-clause-stands g c =
    core_turned c.args.self.now c.self.inside.network c.self.inside.events c.self.inside.failed c.self.view_is c.if-self.false c.requires.stands c.args.task c.turn.new.self
    c.args.journal.now c.turn.new.journal c.in_ok-done.done c.in_ok-done.ensures.taken

pub returns-clause-exact : goal.returns-clause-exact
returns-clause-exact g c =
    exact_after c.rows_at_rest_are_exact.ensures c.turn.new.self c.self.inside.events
    (core_turned c.args.self.now c.self.inside.network c.self.inside.events c.self.inside.failed c.self.view_is c.if-self.false c.requires.stands c.args.task c.turn.new.self
    c.args.journal.now c.turn.new.journal c.in_ok-done.done c.in_ok-done.ensures.taken)

pub invariant_of-self-2 : goal.invariant_of-self-2
invariant_of-self-2 g c =
    λ _. (
      readers_of c.turn.new.self
          (core_turned c.args.self.now c.self.inside.network c.self.inside.events c.self.inside.failed c.self.view_is c.if-self.false c.requires.stands c.args.task c.turn.new.self
          c.args.journal.now c.turn.new.journal c.in_ok-done.done c.in_ok-done.ensures.taken).stands,
      c.in_ok-done.ensures.informed,
    )

pub returns-clause-comes : goal.returns-clause-comes
returns-clause-comes g c = core_comes c.args.self.now c.self.inside.network c.self.inside.events c.self.inside.failed c.self.view_is c.if-self.false c.requires.stands c.args.task c.turn.new.self c.args.journal.now c.turn.new.journal c.in_ok-done.done c.in_ok-done.ensures.taken

pub turn-requires-clause-informed : goal.turn-requires-clause-informed
turn-requires-clause-informed g c = (c.self.invariant c.if-self.false).1
