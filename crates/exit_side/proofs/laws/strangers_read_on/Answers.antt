use Rattle.exit_side.proofs.PutLemmas as puts
use Rattle.exit_side.proofs.laws.strangers_read_on.Goals as goal

pub returns : goal.returns
returns c = puts.strangers_read_on c.a_session_stands.ensures.others
