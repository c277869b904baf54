use Rattle.peer_out.proofs.SentLemmas.{read_may_be_heard}
use Rattle.peer_out.proofs.laws.what_was_read_may_be_heard.Goals as goal

pub returns : goal.returns
returns c = read_may_be_heard
