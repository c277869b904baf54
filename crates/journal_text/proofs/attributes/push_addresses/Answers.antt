use Rattle.std.proofs.Common.{arith}
use Rattle.addr4.specs.Texts.{id_text}
use Rattle.journal_text.proofs.Joins.{at_place, append_next, append_first}
use Rattle.journal_text.proofs.attributes.push_addresses.Goals as goal
use Rattle.journal_text.proofs.attributes.push_addresses.Goals.{then-i-gt0+in_ok-push, else-i-gt0}

pub loop-i-preserved : goal.loop-i-preserved
loop-i-preserved c =
    let addresses = c.args.addresses.now in
    let addr = c.index-addresses-i.result in
    let place = at_place addresses c.loop-i.i addr c.loop-i-test.true c.index-addresses-i.is in
    elim c.if-i-gt0.branch [
      | then-i-gt0+in_ok-push w ↦
          rw (c.in_ok-push_id.ensures, w.out-is, w.in_ok-push.ensures.items)
          (append_next 59 id_text addresses c.loop-i.i addr w.if-i-gt0.true c.loop-i-test.true place _ _ c.loop-i.invariant)
      | else-i-gt0 w ↦
          rw (c.in_ok-push_id.ensures, w.out-is)
          (append_first 59 id_text addresses c.loop-i.i addr (omega (arith, w.if-i-gt0.false)) c.loop-i-test.true place _ _ c.loop-i.invariant)
    ]
