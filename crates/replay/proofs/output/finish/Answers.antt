use Rattle.std.proofs.Common.{sym, ap, ◌∙◌}
use Rattle.journal_text.specs.Journals.{Journaled}
use Rattle.check_run.proofs.Known.{of_failed}
use Rattle.replay.proofs.Endings.{ended_front}
use Rattle.replay.proofs.output.finish.Goals as goal

pub returns-then-is_err-clause-front : goal.returns-then-is_err-clause-front
returns-then-is_err-clause-front g c = λ is read written was.
    let w = of_failed c.write_text.result _ (sym c.if-is_err.ensures.value) c.write_text.ensures.front in
    (w.0, w.1, ended_front c.args.journal.now.quiet c.in-Ok.accepted read written w.0 w.2.0 c.step_last.new.journal.text (λ yes. (c.in-Ok.ensures.accepted yes read written was).output) (λ no'. c.in-Ok.ensures.refused no' read written was) (ap (λ (j : Journaled). j.text) (sym c.first.ensures) ∙ w.2.1))
