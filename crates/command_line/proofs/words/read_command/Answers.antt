use Rattle.std.proofs.Common.{◌∙◌}
use Rattle.command_line.proofs.WordLemmas.{of_taken, of_faulty, is_free}
use Rattle.command_line.proofs.words.read_command.Goals as goal

pub returns-in-Ok : goal.returns-in-Ok
returns-in-Ok c = c.named-command.ensures ∙ of_taken _ _ c.in-Ok.matches c.in_ok-command.ensures c.in-Ok.ensures.matches (c.in-Ok.ensures.kinds (is_free _ c.in_ok-command.ensures))

pub returns-in_default : goal.returns-in_default
returns-in_default c = of_faulty _ _ c.in-Err.error c.in_ok-command.ensures (c.in-Err.ensures.kinds (is_free _ c.in_ok-command.ensures)) (λ is. c.in_default.not-OutOfMemory (c.kind-kind.ensures ∙ is))
