use Rattle.rib_exit.proofs.BusyLemmas.{none_left_without_work, turns_are_bounded, left_follows}
use Rattle.rib_exit.proofs.laws.turns_are_left.Goals as goal

pub returns-clause-none : goal.returns-clause-none
returns-clause-none c = none_left_without_work

pub returns-clause-bounded : goal.returns-clause-bounded
returns-clause-bounded c = turns_are_bounded

pub returns-clause-follow : goal.returns-clause-follow
returns-clause-follow c = left_follows
