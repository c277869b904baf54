use Rattle.std.proofs.Common.{sym, ap, ◌∙◌}
use Rattle.journal_text.specs.Journals.{Journaled}
use Rattle.journal_text.specs.Values.{valued_change}
use Rattle.journal_text.proofs.JournalLemmas.{quiet_entries}
use Rattle.journal_text.proofs.journal.Journal.push_change.Goals as goal

pub returns-then-self : goal.returns-then-self
returns-then-self g c = quiet_entries c.args.self.now (valued_change g.R.Valued.value c.args.link c.args.change.now) (sym (ap (λ (j : Journaled). j.quiet) c.self.view_is) ∙ c.if-self.true)
