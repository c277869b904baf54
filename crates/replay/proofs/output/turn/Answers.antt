use Rattle.std.proofs.Common.{List, ℕ, [], sym, ap, subst, ◌∙◌}
use Rattle.journal_text.specs.Journals.{Journaled}
use Rattle.std.proofs.lemmas.List.{append-nil}
use Rattle.router.specs.Networks.{networks_of}
use Rattle.replay.specs.Stream.{HasStepped}
use Rattle.replay.specs.Streams.{state}
use Rattle.check_run.proofs.Known.{of_failed}
use Rattle.replay.proofs.Endings.{written_front}
use Rattle.replay.proofs.output.turn.Goals as goal

pub returns-then-is_err-clause-front : goal.returns-then-is_err-clause-front
returns-then-is_err-clause-front g c = λ is read written was.
    let w = of_failed c.write_text.result _ (sym c.if-is_err.ensures.value) c.write_text.ensures.front in
    (w.0, w.1, written_front c.args.journal.now.quiet c.in-Ok.accepted read written c.args.piece.now [] c.step_piece.new.journal.text w.0 w.2.0 (state c.args.stream.now) (state c.step_piece.new.stream) c.in-Ok.ensures.goes_on (subst (λ (t : List ℕ). HasStepped c.args.journal.now.quiet read c.args.stream.now.number (networks_of c.args.stream.now.router) c.args.stream.now.turns c.args.stream.now.pending.items t) (sym (append-nil written)) was) (ap (λ (j : Journaled). j.text) (sym c.first.ensures) ∙ w.2.1))
