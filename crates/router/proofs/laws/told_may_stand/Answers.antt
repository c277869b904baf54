use Rattle.router.proofs.ToldLemmas.{may_be_told, told_in_two}
use Rattle.router.proofs.laws.told_may_stand.Goals as goal

pub returns-clause-may : goal.returns-clause-may
returns-clause-may c = may_be_told c.sessions_end_in_both.ensures

pub returns-clause-two : goal.returns-clause-two
returns-clause-two c = told_in_two
