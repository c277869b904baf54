use Rattle.exit_side.proofs.LawLemmas.{none_left_without_work, turns_bounded, left_follow}
use Rattle.exit_side.proofs.laws.turns_are_left.Goals as goal

pub returns-clause-none : goal.returns-clause-none
returns-clause-none c = none_left_without_work

pub returns-clause-bounded : goal.returns-clause-bounded
returns-clause-bounded c = turns_bounded

pub returns-clause-follow : goal.returns-clause-follow
returns-clause-follow c = left_follow
