use Rattle.exit_laws.proofs.KeptLemmas as kept
use Rattle.exit_laws.proofs.PrintLemmas as prints
use Rattle.exit_laws.proofs.ResendLemmas as again
use Rattle.exit_laws.proofs.steps_are_printed.Goals as goal

pub returns-clause-begin : goal.returns-clause-begin
returns-clause-begin c = prints.beginning_is_printed

pub returns-clause-end : goal.returns-clause-end
returns-clause-end c = prints.end_is_printed

pub returns-clause-turn : goal.returns-clause-turn
returns-clause-turn c = prints.turn_is_printed

pub returns-clause-edit : goal.returns-clause-edit
returns-clause-edit c = kept.edit_is_printed

pub returns-clause-put : goal.returns-clause-put
returns-clause-put c = kept.put_is_printed

pub returns-clause-join : goal.returns-clause-join
returns-clause-join c = kept.join_is_printed

pub returns-clause-take : goal.returns-clause-take
returns-clause-take c = prints.take_is_printed

pub returns-clause-stays : goal.returns-clause-stays
returns-clause-stays c = prints.printing_stays

pub returns-clause-empty : goal.returns-clause-empty
returns-clause-empty c = kept.empty_is_printed

pub returns-clause-refresh : goal.returns-clause-refresh
returns-clause-refresh c = again.refresh_is_printed

pub returns-clause-resend : goal.returns-clause-resend
returns-clause-resend c = again.resend_is_printed
