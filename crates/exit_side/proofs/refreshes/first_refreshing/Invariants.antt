use Rattle.std.proofs.Common.{◌≡◌}
use Rattle.exit_side.specs.Tasks.{first_refreshing}
use Rattle.exit_side.proofs.refreshes.first_refreshing.Given as goal

abbrev pub invariant-loop-number : goal.invariant-loop-number
invariant-loop-number g l = first_refreshing l.number-iterator ≡ first_refreshing l.chains.entries
