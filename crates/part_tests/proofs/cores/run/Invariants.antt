use Rattle.router_moments.specs.Stands.{CoreStands}
use Rattle.part_tests.proofs.cores.run.Given as goal

abbrev pub invariant-loop-line : goal.invariant-loop-line
invariant-loop-line l = (goal.iterator-loop-line).can_next l.line-iterator × (goal.iterator-loop-line).is_finite l.line-iterator × CoreStands l.core
