use Rattle.journal_laws.proofs.PrintedFalls.{falls_printed, changes_printed}
use Rattle.journal_laws.proofs.falls_are_printed.Goals as goal

pub returns-clause-falls : goal.returns-clause-falls
returns-clause-falls c = falls_printed

pub returns-clause-changes : goal.returns-clause-changes
returns-clause-changes c = changes_printed
