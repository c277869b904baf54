use Rattle.router_moments.proofs.HeldLemmas.{phase_passed, phase_holds}
use Rattle.router_network.proofs.network.Network.first_held.Goals as goal

pub returns-in-Some : goal.returns-in-Some
returns-in-Some g c =
    phase_holds c.args.self.now c.args.p c.phases-phases.result c.loop-i.i _ c.held_in.result c.in-Some.task c.phases-phases.ensures c.loop-i-test.true c.loop-i.invariant c.held_in.ensures c.in-Some.is

pub loop-i-preserved : goal.loop-i-preserved
loop-i-preserved g c = phase_passed c.args.self.now c.args.p c.phases-phases.result c.loop-i.i _ c.held_in.result c.phases-phases.ensures c.loop-i-test.true c.loop-i.invariant c.held_in.ensures c.in_default.is
