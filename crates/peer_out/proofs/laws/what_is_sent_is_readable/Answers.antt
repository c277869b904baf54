use Rattle.peer_out.proofs.SentLemmas.{sent_is_readable}
use Rattle.peer_out.proofs.laws.what_is_sent_is_readable.Goals as goal

pub returns : goal.returns
returns c = sent_is_readable
