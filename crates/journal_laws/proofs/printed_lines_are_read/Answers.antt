use Rattle.journal_laws.proofs.LawfulTexts.{lines_read}
use Rattle.journal_laws.proofs.printed_lines_are_read.Goals as goal

pub returns : goal.returns
returns c = lines_read
