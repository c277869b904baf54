use Rattle.journal_text.proofs.ReadNames.{read_link_named, read_link_named_in}
use Rattle.journal_text.proofs.laws.read_links_are_named.Goals as goal

pub returns-clause-within : goal.returns-clause-within
returns-clause-within c = read_link_named

pub returns-clause-either : goal.returns-clause-either
returns-clause-either c = read_link_named_in
