use Rattle.router_moments.proofs.Common.{counts, phase_of}
use Rattle.router_moments.proofs.RunLemmas.{HaveGiven}
use Rattle.router_network.specs.Informed.{Informed}
use Rattle.router_network.proofs.network.Network.drain_task.Given as goal

abbrev pub invariant-rest : goal.invariant-rest
invariant-rest g l = record {
  given : HaveGiven l.task l.turns l.fn.self l.self l.fn.journal l.journal;
  informed : Informed l.contests l.self;
}

abbrev pub decreases-rest : goal.decreases-rest
decreases-rest g l = counts l.self (phase_of l.task)
