use Rattle.journal_text.proofs.ReadBack.{task_back, task_back_in}
use Rattle.journal_text.proofs.laws.task_names_are_read_back.Goals as goal

pub returns-clause-within : goal.returns-clause-within
returns-clause-within c = task_back

pub returns-clause-either : goal.returns-clause-either
returns-clause-either c = task_back_in
