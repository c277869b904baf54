use Rattle.journal_text.proofs.WalkLemmas.{leads_append}
use Rattle.journal_text.proofs.laws.journals_join.Goals as goal

pub returns : goal.returns
returns g c = leads_append
