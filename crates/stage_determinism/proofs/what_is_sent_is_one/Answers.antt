use Rattle.stage_determinism.proofs.OneLemmas as one
use Rattle.stage_determinism.proofs.what_is_sent_is_one.Goals as goal

pub returns-clause-sent : goal.returns-clause-sent
returns-clause-sent g c = one.sent_is_one

pub returns-clause-makes : goal.returns-clause-makes
returns-clause-makes g c = one.sent_makes_one

pub returns-clause-change : goal.returns-clause-change
returns-clause-change g c = one.change_is_one
