use Rattle.std.proofs.Common.{◌≡◌}
use Rattle.std.specs.BTreeMap.{values}
use Rattle.peer_side.specs.Peers.{first_walk}
use Rattle.peer_side.proofs.tasks.first_busy.Given as goal

abbrev pub invariant-loop-chain : goal.invariant-loop-chain
invariant-loop-chain g l = first_walk l.chain-iterator ≡ first_walk (values l.chains)
