use Rattle.journal_text.proofs.WalkLemmas.{values_lead}
use Rattle.journal_text.proofs.laws.changes_lead.Goals as goal

pub returns : goal.returns
returns g c = values_lead g.R.Valued.value g.met.R.Valued.told
