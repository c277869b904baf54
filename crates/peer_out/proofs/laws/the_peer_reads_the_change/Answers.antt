use Rattle.peer_out.proofs.SentLemmas.{reads_change}
use Rattle.peer_out.proofs.laws.the_peer_reads_the_change.Goals as goal

pub returns : goal.returns
returns c = reads_change
