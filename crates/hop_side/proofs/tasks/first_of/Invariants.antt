use Rattle.std.proofs.Common.{◌≡◌}
use Rattle.hop_side.specs.Tasks.{first_of}
use Rattle.hop_side.proofs.tasks.first_of.Given as goal

abbrev pub invariant-loop-number : goal.invariant-loop-number
invariant-loop-number g l = first_of l.number-iterator ≡ first_of l.resolvers.entries
