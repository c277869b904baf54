use Rattle.journal_text.proofs.JournalLemmas.{with_entries_append}
use Rattle.journal_text.proofs.laws.entries_are_appended.Goals as goal

pub returns : goal.returns
returns c = with_entries_append
