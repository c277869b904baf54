use Rattle.journal_text.proofs.ReadBack.{link_back, link_back_in}
use Rattle.journal_text.proofs.laws.link_names_are_read_back.Goals as goal

pub returns-clause-within : goal.returns-clause-within
returns-clause-within c = link_back

pub returns-clause-either : goal.returns-clause-either
returns-clause-either c = link_back_in
