use Rattle.std.proofs.Common.{◌<◌, take, length, arith}
use Rattle.check_run.specs.Stages.{stage}
use Rattle.check_run.proofs.Readings.{progress_more, comes_nearer, judged_all, judged_early}
use Rattle.check_run.proofs.judging.judge.Goals as goal

pub returns-then-count-eq0-clause-judged : goal.returns-then-count-eq0-clause-judged
returns-then-count-eq0-clause-judged g c =
    let bytes = c.in-Ok.ensures.bytes in
    judged_all c.in-Ok-finish.checked _ _ _ (stage c.reading.checking) c.read.new.buf c.in-Ok.count c.if-count-eq0.true c.reading.invariant.progress bytes.0 (bytes.1 c.if-count-eq0.true (omega arith)) c.in-Ok-finish.ensures

pub reading-smaller : goal.reading-smaller
reading-smaller g c =
    let some : 0 < length (take c.in-Ok.count c.read.new.buf) = omega (arith, c.in-Ok.ensures.bound.1, c.if-count-eq0.false) in
    comes_nearer _ _ _ (stage c.reading.checking) (stage c.take.new.self) some c.reading.invariant.progress (c.in-Ok-take.ensures.nearer c.in-Lawful.is)

pub reading-preserved : goal.reading-preserved
reading-preserved g c = record {
  progress = progress_more c.in-Ok-take.checked _ _ _ (stage c.reading.checking) _ _ c.in-Lawful.is c.reading.invariant.progress c.in-Ok.ensures.bytes.0 c.in-Ok-take.ensures.goes_on;
  later = omega (arith, c.reading.invariant.later, c.in-Ok.ensures.cause.later);
}

pub returns-in_default-checked-clause-judged : goal.returns-in_default-checked-clause-judged
returns-in_default-checked-clause-judged g c =
    judged_early c.in-Ok-take.checked _ _ _ (stage c.reading.checking) (stage c.take.new.self) _ c.in_default-checked.not-Lawful c.reading.invariant.progress c.in-Ok.ensures.bytes.0 c.in-Ok-take.ensures.goes_on
