use Rattle.wire_laws.proofs.SaidAgain.{internal_reads}
use Rattle.wire_laws.proofs.internal_peers_read_as_much.Goals as goal

pub returns : goal.returns
returns c = internal_reads
