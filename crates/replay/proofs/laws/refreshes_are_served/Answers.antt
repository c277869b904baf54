use Rattle.replay.proofs.RefreshLemmas as refreshes
use Rattle.replay.proofs.laws.refreshes_are_served.Goals as goal

pub returns-clause-served : goal.returns-clause-served
returns-clause-served c = refreshes.refreshes_are_served c.sessions_end.ensures

pub returns-clause-idle : goal.returns-clause-idle
returns-clause-idle c = refreshes.refreshes_end
