use Rattle.router_moments.proofs.CoreLemmas.{core_drained, core_phase, exact_after, readers_of}
use Rattle.router_core.proofs.router.Core.drain.Goals as goal

pub returns-clause-drained : goal.returns-clause-drained
returns-clause-drained g c = core_drained c.args.self.now c.self.inside.network c.self.inside.events c.self.inside.failed c.self.view_is c.if-self.false c.requires.stands c.args.phase c.in_ok-turns.turns c.drain.new.self c.args.journal.now c.drain.new.journal c.in_ok-turns.ensures.drained

pub returns-clause-stands : goal.returns-clause-stands
returns-clause-stands g c = core_phase c.args.self.now c.self.inside.network c.self.inside.events c.self.inside.failed c.self.view_is c.if-self.false c.requires.stands c.args.phase c.in_ok-turns.turns c.drain.new.self c.args.journal.now c.drain.new.journal c.in_ok-turns.ensures.drained

pub returns-clause-exact : goal.returns-clause-exact
returns-clause-exact g c =
    exact_after c.rows_at_rest_are_exact.ensures c.drain.new.self c.self.inside.events
    (core_phase c.args.self.now c.self.inside.network c.self.inside.events c.self.inside.failed c.self.view_is c.if-self.false c.requires.stands c.args.phase c.in_ok-turns.turns c.drain.new.self c.args.journal.now c.drain.new.journal c.in_ok-turns.ensures.drained)

pub invariant_of-self-2 : goal.invariant_of-self-2
invariant_of-self-2 g c =
    λ _. (
      readers_of c.drain.new.self
          (core_phase c.args.self.now c.self.inside.network c.self.inside.events c.self.inside.failed c.self.view_is c.if-self.false c.requires.stands c.args.phase c.in_ok-turns.turns c.drain.new.self c.args.journal.now c.drain.new.journal c.in_ok-turns.ensures.drained).stands,
      c.in_ok-turns.ensures.informed,
    )

pub drain-requires-clause-informed : goal.drain-requires-clause-informed
drain-requires-clause-informed g c = (c.self.invariant c.if-self.false).1
