use Rattle.std.proofs.Common.{◌≡◌}
use Rattle.hop_side.specs.Tasks.{first_lagging}
use Rattle.hop_side.proofs.tasks.first_lagging.Given as goal

abbrev pub invariant-loop-number : goal.invariant-loop-number
invariant-loop-number g l = first_lagging (g.U.Named.rows l.uppers) l.p l.number-iterator ≡ first_lagging (g.U.Named.rows l.uppers) l.p l.resolvers.entries
