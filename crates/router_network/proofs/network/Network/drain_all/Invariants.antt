use Rattle.router_moments.proofs.Common.{Gives}
use Rattle.router_moments.proofs.RunLemmas.{Idling}
use Rattle.router_network.specs.Informed.{Informed}
use Rattle.router_network.proofs.network.Network.drain_all.Given as goal

abbrev pub invariant-loop-i : goal.invariant-loop-i
invariant-loop-i g l = record {
  given : Gives (Idling l.i l.turns l.fn.self l.self) l.fn.journal l.journal;
  informed : Informed l.contests l.self;
}
