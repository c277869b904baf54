use Rattle.exit_side.proofs.RefreshLemmas.{refresh_keeps, resend_keeps}
use Rattle.exit_side.proofs.laws.a_refresh_changes_nothing_else.Goals as goal

pub returns-clause-begins : goal.returns-clause-begins
returns-clause-begins c = refresh_keeps

pub returns-clause-resends : goal.returns-clause-resends
returns-clause-resends c = resend_keeps
