use Rattle.router_moments.proofs.Common.{counts}
use Rattle.router_moments.proofs.RunLemmas.{HaveGivenOf}
use Rattle.router_network.specs.Informed.{Informed}
use Rattle.router_network.proofs.network.Network.drain.Given as goal

abbrev pub invariant-loop-task : goal.invariant-loop-task
invariant-loop-task g l = record {
  given : HaveGivenOf l.phase l.turns l.fn.self l.self l.fn.journal l.journal;
  informed : Informed l.contests l.self;
}

abbrev pub decreases-loop-task : goal.decreases-loop-task
decreases-loop-task g l = counts l.self l.phase
