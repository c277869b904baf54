use Rattle.std.proofs.Common.{◌≡◌}
use Rattle.std.specs.List.{flat_map}
use Rattle.std.specs.BTreeMap.{values}
use Rattle.loss_chain.specs.Steps.{first_task}
use Rattle.peer_side.specs.Peers.{chain_tasks}
use Rattle.peer_side.proofs.tasks.first_oldest.Given as goal

abbrev pub invariant-loop-chain : goal.invariant-loop-chain
invariant-loop-chain g l = first_task (flat_map chain_tasks l.chain-iterator) ≡ first_task (flat_map chain_tasks (values l.chains))
