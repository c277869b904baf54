use Rattle.live_state.proofs.SessionLemmas.{follows}
use Rattle.live_state.proofs.declarations_follow.Goals as goal

pub returns : goal.returns
returns c = follows c.sessions_end.ensures
