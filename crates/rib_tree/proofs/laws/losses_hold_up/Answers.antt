use Rattle.rib_tree.proofs.HeldLemmas as held
use Rattle.rib_tree.proofs.laws.losses_hold_up.Goals as goal

pub returns-clause-idle : goal.returns-clause-idle
returns-clause-idle c = held.none_held_up_without_work

pub returns-clause-listed : goal.returns-clause-listed
returns-clause-listed c = held.work_is_listed

pub returns-clause-exact : goal.returns-clause-exact
returns-clause-exact c = held.org_where_none_is_lost
