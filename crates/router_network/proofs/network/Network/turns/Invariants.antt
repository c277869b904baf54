use Rattle.router_moments.proofs.RunLemmas.{HaveGiven}
use Rattle.router_network.specs.Informed.{Informed}
use Rattle.router_network.proofs.network.Network.turns.Given as goal

abbrev pub invariant-loop-taken : goal.invariant-loop-taken
invariant-loop-taken g l = record {
  given : HaveGiven l.task l.taken l.fn.self l.self l.fn.journal l.journal;
  informed : Informed l.contests l.self;
}
