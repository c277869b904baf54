use Rattle.out_chain.proofs.RefreshLemmas.{refresh_keeps, resend_keeps}
use Rattle.out_chain.proofs.laws.a_refresh_changes_nothing.Goals as goal

pub returns-clause-begins : goal.returns-clause-begins
returns-clause-begins c = refresh_keeps

pub returns-clause-resends : goal.returns-clause-resends
returns-clause-resends c = resend_keeps
