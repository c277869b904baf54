use Rattle.wire_laws.proofs.SpelledMessages.{announcement_is_read}
use Rattle.wire_laws.proofs.announcements_are_read.Goals as goal

pub returns : goal.returns
returns c = announcement_is_read
