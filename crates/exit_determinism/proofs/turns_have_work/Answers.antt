use Rattle.exit_determinism.proofs.QueueLemmas as queue
use Rattle.exit_determinism.proofs.ExitLemmas as one
use Rattle.exit_determinism.proofs.turns_have_work.Goals as goal

pub returns-clause-take : goal.returns-clause-take
returns-clause-take c = queue.taken_is_unread

pub returns-clause-turn : goal.returns-clause-turn
returns-clause-turn c = one.turn_has_work

pub returns-clause-resend : goal.returns-clause-resend
returns-clause-resend c = one.resend_has_work
