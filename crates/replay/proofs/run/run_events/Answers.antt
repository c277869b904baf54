use Rattle.std.proofs.Common.{Bool, ap, subst}
use Rattle.check_run.specs.Runs.{Took, ReadsAndWrites}
use Rattle.journal_text.specs.Journals.{Journaled}
use Rattle.replay.specs.Output.{IsRefusedOutput, IsOutputOfFront, IsOutputOfEnded}
use Rattle.replay.specs.Totals.{IsWholeOutput, IsFrontOfWhole}
use Rattle.replay.proofs.run.run_events.Goals as goal

pub returns-clause-ok : goal.returns-clause-ok
returns-clause-ok g c = λ is. subst
    (λ (q : Bool). Took (g.S.Source.left c.args.source.now) (g.K.Sink.taken c.args.sink.now) (g.K.Sink.taken c.run_whole-status.new.sink) (IsWholeOutput c.args.totalled q))
    (ap (λ (j : Journaled). j.quiet) c.new-journal.ensures)
    (c.run_whole-status.ensures.ok is)

pub returns-clause-refused : goal.returns-clause-refused
returns-clause-refused g c = λ is. subst
    (λ (q : Bool). Took (g.S.Source.left c.args.source.now) (g.K.Sink.taken c.args.sink.now) (g.K.Sink.taken c.run_whole-status.new.sink) (IsRefusedOutput q))
    (ap (λ (j : Journaled). j.quiet) c.new-journal.ensures)
    (c.run_whole-status.ensures.refused is)

pub returns-clause-memory : goal.returns-clause-memory
returns-clause-memory g c = λ is. subst
    (λ (q : Bool). Took (g.S.Source.left c.args.source.now) (g.K.Sink.taken c.args.sink.now) (g.K.Sink.taken c.run_whole-status.new.sink) (IsOutputOfFront q))
    (ap (λ (j : Journaled). j.quiet) c.new-journal.ensures)
    (c.run_whole-status.ensures.memory is)

pub returns-clause-front : goal.returns-clause-front
returns-clause-front g c = λ is. subst
    (λ (q : Bool). Took (g.S.Source.left c.args.source.now) (g.K.Sink.taken c.args.sink.now) (g.K.Sink.taken c.run_whole-status.new.sink) (IsFrontOfWhole c.args.totalled q))
    (ap (λ (j : Journaled). j.quiet) c.new-journal.ensures)
    (c.run_whole-status.ensures.front is)

pub returns-clause-so_far : goal.returns-clause-so_far
returns-clause-so_far g c = λ is. subst
    (λ (q : Bool). ReadsAndWrites (g.S.Source.left c.args.source.now) (g.S.Source.left c.run_whole-status.new.source) (g.K.Sink.taken c.args.sink.now) (g.K.Sink.taken c.run_whole-status.new.sink) (IsOutputOfEnded q))
    (ap (λ (j : Journaled). j.quiet) c.new-journal.ensures)
    (c.run_whole-status.ensures.so_far is)
