use Rattle.wire_laws.proofs.SaidAgain.{announced_length}
use Rattle.wire_laws.proofs.announcements_are_so_long.Goals as goal

pub returns : goal.returns
returns c = announced_length
