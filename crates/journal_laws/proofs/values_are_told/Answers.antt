use Rattle.journal_laws.proofs.ValueTexts.{values_told}
use Rattle.journal_laws.proofs.values_are_told.Goals as goal

pub returns : goal.returns
returns c = values_told
