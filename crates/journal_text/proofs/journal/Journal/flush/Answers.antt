use Rattle.std.proofs.Common.{ap}
use Rattle.journal_text.specs.Journals.{Journaled}
use Rattle.journal_text.proofs.journal.Journal.flush.Goals as goal

pub returns-in-Err-clause-memory : goal.returns-in-Err-clause-memory
returns-in-Err-clause-memory g c = (ap (λ (j : Journaled). j.pending) c.self.view_is, ap (λ (j : Journaled). j.quiet) c.self.view_is, ap (λ (j : Journaled). j.v6) c.self.view_is)
