use Rattle.live_state.proofs.SessionLemmas.{ends}
use Rattle.live_state.proofs.sessions_end.Goals as goal

pub returns : goal.returns
returns c = ends c.one_of_message_and_fault.ensures
