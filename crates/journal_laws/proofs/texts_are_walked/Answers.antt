use Rattle.journal_laws.proofs.TextWalks.{texts_walked}
use Rattle.journal_laws.proofs.WalksBack.{walks_told}
use Rattle.journal_laws.proofs.texts_are_walked.Goals as goal

pub returns-clause-leads : goal.returns-clause-leads
returns-clause-leads c = texts_walked

pub returns-clause-tells : goal.returns-clause-tells
returns-clause-tells c = walks_told
