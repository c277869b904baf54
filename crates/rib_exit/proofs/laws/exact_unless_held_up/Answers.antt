use Rattle.rib_exit.proofs.LawLemmas as laws
use Rattle.rib_exit.proofs.laws.exact_unless_held_up.Goals as goal

pub returns-clause-exact : goal.returns-clause-exact
returns-clause-exact c = laws.exact_unless_held_up c.exact_unless_held_up.ensures

pub returns-clause-idle : goal.returns-clause-idle
returns-clause-idle c = laws.none_held_up_without_work
