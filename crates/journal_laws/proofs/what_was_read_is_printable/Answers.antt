use Rattle.journal_laws.proofs.ReadAttrs.{read_printable}
use Rattle.journal_laws.proofs.what_was_read_is_printable.Goals as goal

pub returns : goal.returns
returns c = read_printable
