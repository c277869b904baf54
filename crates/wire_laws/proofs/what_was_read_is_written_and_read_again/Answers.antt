use Rattle.wire_laws.proofs.SaidAgain.{said_again}
use Rattle.wire_laws.proofs.what_was_read_is_written_and_read_again.Goals as goal

pub returns : goal.returns
returns c = said_again
