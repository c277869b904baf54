use Rattle.journal_check.proofs.LineBack.{lines_back}
use Rattle.journal_check.proofs.laws.printed_lines_are_read_back.Goals as goal

pub returns : goal.returns
returns c = lines_back
