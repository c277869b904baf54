use Rattle.std.proofs.Common.{◌≡◌}
use Rattle.std.specs.BTreeMap.{values}
use Rattle.peer_side.specs.Peers.{first_walking}
use Rattle.peer_side.proofs.tasks.first_walking.Given as goal

abbrev pub invariant-loop-chain : goal.invariant-loop-chain
invariant-loop-chain g l = first_walking l.p l.chain-iterator ≡ first_walking l.p (values l.chains)
