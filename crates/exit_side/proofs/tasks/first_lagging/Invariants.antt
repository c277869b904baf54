use Rattle.std.proofs.Common.{◌≡◌}
use Rattle.exit_side.specs.Tasks.{first_lagging}
use Rattle.exit_side.proofs.TaskLemmas.{AllLive}
use Rattle.exit_side.proofs.tasks.first_lagging.Given as goal

abbrev pub invariant-loop-number : goal.invariant-loop-number
invariant-loop-number g l = record {
  first : first_lagging l.queue l.has_best l.p l.number-iterator ≡ first_lagging l.queue l.has_best l.p l.chains.entries;
  live : AllLive l.queue l.number-iterator;
}
