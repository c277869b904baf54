use Rattle.std.proofs.Common.{arith, refl}
use Rattle.std.specs.Fmt.{decimal}
use Rattle.journal_text.proofs.Joins.{append_next, append_first}
use Rattle.journal_text.proofs.attributes.push_dotted.Goals as goal
use Rattle.journal_text.proofs.attributes.push_dotted.Goals.{then-i-gt0+in_ok-push, else-i-gt0}

pub loop-i-preserved : goal.loop-i-preserved
loop-i-preserved c =
    elim c.if-i-gt0.branch [
      | then-i-gt0+in_ok-push w ↦
          rw (c.in_ok-push_number.ensures, w.out-is, w.in_ok-push.ensures.items, c.from.ensures)
          (append_next 46 decimal c.args.numbers.now c.loop-i.i _ w.if-i-gt0.true c.loop-i-test.true refl _ _ c.loop-i.invariant)
      | else-i-gt0 w ↦
          rw (c.in_ok-push_number.ensures, w.out-is, c.from.ensures)
          (append_first 46 decimal c.args.numbers.now c.loop-i.i _ (omega (arith, w.if-i-gt0.false)) c.loop-i-test.true refl _ _ c.loop-i.invariant)
    ]
