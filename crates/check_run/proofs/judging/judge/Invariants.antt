use Rattle.std.proofs.Common.{◌+◌, ◌-◌, ◌*◌, ◌^◌, ◌≤◌, length}
use Rattle.check_run.specs.Stages.{stage}
use Rattle.check_run.specs.Walking.{Progress}
use Rattle.check_run.proofs.judging.judge.Given as goal

abbrev pub invariant-reading : goal.invariant-reading
invariant-reading g l = record {
  progress : Progress (g.S.Source.left l.fn.source) (g.S.Source.left l.source) (stage l.checking);
  later : g.S.Source.faults l.fn.source ≤ g.S.Source.faults l.source;
}

-- the lines that may still come, and the bytes of the one that has begun
abbrev pub decreases-reading : goal.decreases-reading
decreases-reading g l = (2 ^ 32 - l.checking.walk.number) * 65538 + (65538 - length l.checking.pending.items)
