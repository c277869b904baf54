use Rattle.std.proofs.Common.{◌++◌, take, sym, ap, ◌∙◌, arith, append_assoc}
use Rattle.check_run.proofs.Known.{appends_then}
use Rattle.check_run.proofs.writing.write_text.Goals as goal

pub writing-preserved : goal.writing-preserved
writing-preserved g c =
    let done = c.writing.invariant.done in
    let piece = take c.read-count.result c.read-count.new.room in
    record {
      done = (done.0 ++ piece, done.1 ∙ (ap (λ t. done.0 ++ t) c.read-count.ensures.text ∙ sym (append_assoc done.0 piece c.read-count.new.self)), appends_then _ _ _ _ _ done.2 c.in_ok-write_all.ensures.all);
      later = omega (arith, c.writing.invariant.later, c.write_all.ensures.cause.later);
    }
