use Rattle.std.proofs.Common.{sym, ap}
use Rattle.journal_text.specs.Journals.{Journaled}
use Rattle.journal_text.proofs.journal.Journal.known.Goals as goal

pub returns : goal.returns
returns g c = sym (ap (λ (j : Journaled). j.v6) c.self.view_is)
