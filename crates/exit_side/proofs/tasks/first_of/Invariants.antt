use Rattle.std.proofs.Common.{◌≡◌}
use Rattle.exit_side.specs.Tasks.{first_of}
use Rattle.exit_side.proofs.TaskLemmas.{AllLive}
use Rattle.exit_side.proofs.tasks.first_of.Given as goal

abbrev pub invariant-loop-number : goal.invariant-loop-number
invariant-loop-number g l = record {
  first : first_of l.queue l.number-iterator ≡ first_of l.queue l.chains.entries;
  live : AllLive l.queue l.number-iterator;
}
