use Rattle.exit_laws.proofs.ResendLemmas as again
use Rattle.exit_laws.proofs.ViewLemmas as views
use Rattle.exit_laws.proofs.steps_are_heard.Goals as goal

pub returns-clause-sent : goal.returns-clause-sent
returns-clause-sent c = views.heard_is_sent

pub returns-clause-begin : goal.returns-clause-begin
returns-clause-begin c = views.beginning_is_heard

pub returns-clause-end : goal.returns-clause-end
returns-clause-end c = views.end_is_heard

pub returns-clause-turn : goal.returns-clause-turn
returns-clause-turn c = views.turn_is_heard

pub returns-clause-turn_from : goal.returns-clause-turn_from
returns-clause-turn_from c = views.turn_is_heard_from

pub returns-clause-edit : goal.returns-clause-edit
returns-clause-edit c = views.edit_keeps_views

pub returns-clause-put : goal.returns-clause-put
returns-clause-put c = views.put_keeps_views

pub returns-clause-refresh : goal.returns-clause-refresh
returns-clause-refresh c = again.refresh_keeps_views

pub returns-clause-resend_keeps : goal.returns-clause-resend_keeps
returns-clause-resend_keeps c = again.resend_keeps_views

pub returns-clause-resend : goal.returns-clause-resend
returns-clause-resend c = again.resend_is_heard
