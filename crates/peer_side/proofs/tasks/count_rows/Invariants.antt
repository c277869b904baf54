use Rattle.std.proofs.Common.{◌≡◌, ◌+◌}
use Rattle.std.specs.List.{sum_by}
use Rattle.std.specs.BTreeMap.{values}
use Rattle.in_chain.specs.Chains.{row_count}
use Rattle.peer_side.proofs.tasks.count_rows.Given as goal

abbrev pub invariant-loop-chain : goal.invariant-loop-chain
invariant-loop-chain g l = l.rows + sum_by row_count l.chain-iterator ≡ sum_by row_count (values l.chains)
