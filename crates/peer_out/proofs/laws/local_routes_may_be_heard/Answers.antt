use Rattle.peer_out.proofs.SentLemmas.{bare_may_be_heard}
use Rattle.peer_out.proofs.laws.local_routes_may_be_heard.Goals as goal

pub returns : goal.returns
returns c = bare_may_be_heard
