use Rattle.std.proofs.Common.{◌≡◌}
use Rattle.std.specs.Map.{values_of}
use Rattle.peer_side.specs.Peers.{first_lost}
use Rattle.peer_side.proofs.HeldLemmas.{AllFew}
use Rattle.peer_side.proofs.tasks.first_lost.Given as goal

abbrev pub invariant-loop-chain : goal.invariant-loop-chain
invariant-loop-chain g l = record {
  first : first_lost l.p (values_of l.chain-iterator) ≡ first_lost l.p (values_of l.chains.entries);
  few : AllFew l.chain-iterator;
}
