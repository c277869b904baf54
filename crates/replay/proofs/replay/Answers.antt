use Rattle.std.proofs.Common.{Option, false, ⊎_elim, subst}
use Rattle.command_line.specs.declared.words.Command.{Command}
use Rattle.replay.specs.Answers.{HasLawful}
use Rattle.replay.proofs.Checked.{done_lawful, refusal_lawful}
use Rattle.replay.proofs.Endings.{no_words}
use Rattle.replay.proofs.replay.Goals as goal

pub returns-in_default-clause-memory : goal.returns-in_default-clause-memory
returns-in_default-clause-memory g c = λ is. no_words (c.first_moment_stands.ensures false, tt) _ _ _

pub returns-clause-lawful : goal.returns-clause-lawful
returns-clause-lawful g c = λ is.
    subst (λ (command : Option Command). HasLawful command (g.S.Source.left c.args.source.now) (g.K.Sink.taken c.args.sink.now) (g.K.Sink.taken c.obey.new.sink)) c.in-Ok.ensures
    (⊎_elim (λ ok. done_lawful c.first_moment_stands.ensures c.in-Ok.command _ _ _ (c.obey.ensures.ok ok)) (λ refused. refusal_lawful c.first_moment_stands.ensures c.in-Ok.command _ _ _ (c.obey.ensures.refused refused)) is)
