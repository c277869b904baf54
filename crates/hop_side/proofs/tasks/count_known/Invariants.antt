use Rattle.std.proofs.Common.{◌≡◌, ◌+◌}
use Rattle.std.specs.List.{sum_by}
use Rattle.std.specs.BTreeMap.{values}
use Rattle.hop_side.specs.Resolvers.{known_of}
use Rattle.hop_side.proofs.tasks.count_known.Given as goal

abbrev pub invariant-loop-resolver : goal.invariant-loop-resolver
invariant-loop-resolver g l = l.known + sum_by known_of l.resolver-iterator ≡ sum_by known_of (values l.resolvers)
