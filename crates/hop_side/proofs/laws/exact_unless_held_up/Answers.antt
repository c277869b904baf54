use Rattle.hop_side.proofs.LawLemmas as laws
use Rattle.hop_side.proofs.laws.exact_unless_held_up.Goals as goal

pub returns-clause-exact : goal.returns-clause-exact
returns-clause-exact c = laws.exact_unless_held_up

pub returns-clause-idle : goal.returns-clause-idle
returns-clause-idle c = laws.none_held_up_without_work

pub returns-clause-listed : goal.returns-clause-listed
returns-clause-listed c = laws.work_is_listed
