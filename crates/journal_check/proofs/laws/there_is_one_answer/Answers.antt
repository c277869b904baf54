use Rattle.journal_check.proofs.OneAnswer.{one_answer}
use Rattle.journal_check.proofs.laws.there_is_one_answer.Goals as goal

pub returns : goal.returns
returns c = one_answer
