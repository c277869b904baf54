use Rattle.exit_determinism.proofs.ExitLemmas as one
use Rattle.exit_determinism.proofs.the_exits_are_one.Goals as goal

pub returns-clause-begin : goal.returns-clause-begin
returns-clause-begin c = one.beginning_is_one

pub returns-clause-end : goal.returns-clause-end
returns-clause-end c = one.end_is_one

pub returns-clause-edit : goal.returns-clause-edit
returns-clause-edit c = one.edit_is_one

pub returns-clause-put : goal.returns-clause-put
returns-clause-put c = one.put_is_one

pub returns-clause-turn : goal.returns-clause-turn
returns-clause-turn c = one.turn_is_one

pub returns-clause-resend : goal.returns-clause-resend
returns-clause-resend c = one.resend_is_one
