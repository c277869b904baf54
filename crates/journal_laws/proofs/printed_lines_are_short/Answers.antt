use Rattle.journal_laws.proofs.ShortLines.{lines_short}
use Rattle.journal_laws.proofs.printed_lines_are_short.Goals as goal

pub returns : goal.returns
returns c = lines_short
