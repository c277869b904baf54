use Rattle.std.proofs.Common.{length}
use Rattle.check_run.specs.Stages.{stage}
use Rattle.check_run.specs.Walking.{HasTaken}
use Rattle.check_run.proofs.checking.Checking.take.Given as goal

abbrev pub invariant-loop-next : goal.invariant-loop-next
invariant-loop-next l = HasTaken (stage l.fn.self) l.piece l.rest (stage l.self)

abbrev pub decreases-loop-next : goal.decreases-loop-next
decreases-loop-next l = length l.rest
