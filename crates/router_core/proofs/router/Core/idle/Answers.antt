use Rattle.router_moments.proofs.CoreLemmas.{moment_exits, core_idled, exact_after, readers_of}
use Rattle.router_core.proofs.router.Core.idle.Goals as goal

pub idle-requires-clause-exits : goal.idle-requires-clause-exits
idle-requires-clause-exits g c = moment_exits c.args.self.now c.self.inside.network c.self.inside.events c.self.inside.failed c.self.view_is c.if-self.false c.requires.stands

pub returns-clause-stands : goal.returns-clause-stands
returns-clause-stands g c = core_idled c.args.self.now c.self.inside.network c.self.inside.events c.self.inside.failed c.self.view_is c.if-self.false c.requires.stands c.in_ok-idle.idle c.idle.new.self c.args.journal.now c.idle.new.journal c.in_ok-idle.ensures.idles

pub returns-clause-exact : goal.returns-clause-exact
returns-clause-exact g c =
    exact_after c.rows_at_rest_are_exact.ensures c.idle.new.self c.self.inside.events
    (core_idled c.args.self.now c.self.inside.network c.self.inside.events c.self.inside.failed c.self.view_is c.if-self.false c.requires.stands c.in_ok-idle.idle c.idle.new.self c.args.journal.now c.idle.new.journal c.in_ok-idle.ensures.idles)

pub invariant_of-self-2 : goal.invariant_of-self-2
invariant_of-self-2 g c =
    λ _. (
      readers_of c.idle.new.self
          (core_idled c.args.self.now c.self.inside.network c.self.inside.events c.self.inside.failed c.self.view_is c.if-self.false c.requires.stands c.in_ok-idle.idle c.idle.new.self c.args.journal.now c.idle.new.journal c.in_ok-idle.ensures.idles).stands,
      c.in_ok-idle.ensures.informed,
    )

pub idle-requires-clause-informed : goal.idle-requires-clause-informed
idle-requires-clause-informed g c = (c.self.invariant c.if-self.false).1
