use Rattle.peer_side.proofs.LawLemmas as laws
use Rattle.peer_side.proofs.laws.tasks_hold_up.Goals as goal

pub returns-clause-idle : goal.returns-clause-idle
returns-clause-idle c = laws.none_held_up_without_work

pub returns-clause-lost : goal.returns-clause-lost
returns-clause-lost c = laws.stages_are_listed

pub returns-clause-walks : goal.returns-clause-walks
returns-clause-walks c = laws.walks_are_listed
