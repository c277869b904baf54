use Rattle.journal_text.proofs.LinkLemmas.{same_link-refl, same_link-yes}
use Rattle.journal_text.proofs.laws.same_links.Goals as goal

pub returns-clause-itself : goal.returns-clause-itself
returns-clause-itself c = same_link-refl

pub returns-clause-equal : goal.returns-clause-equal
returns-clause-equal c = same_link-yes
