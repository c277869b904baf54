use Rattle.exit_laws.proofs.ServedLemmas as served
use Rattle.exit_laws.proofs.refreshes_are_served.Goals as goal

pub returns-clause-begins : goal.returns-clause-begins
returns-clause-begins c = served.serving_begins

pub returns-clause-ends : goal.returns-clause-ends
returns-clause-ends c = served.serving_ends

pub returns-clause-turn : goal.returns-clause-turn
returns-clause-turn c = served.turn_serves

pub returns-clause-resend : goal.returns-clause-resend
returns-clause-resend c = served.resend_serves

pub returns-clause-refresh : goal.returns-clause-refresh
returns-clause-refresh c = served.refresh_serves

pub returns-clause-edit : goal.returns-clause-edit
returns-clause-edit c = served.edit_serves

pub returns-clause-others : goal.returns-clause-others
returns-clause-others c = served.others_serve

pub returns-clause-end : goal.returns-clause-end
returns-clause-end c = served.end_serves

pub returns-clause-begin : goal.returns-clause-begin
returns-clause-begin c = served.begin_serves
