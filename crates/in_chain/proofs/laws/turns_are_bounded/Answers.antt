use Rattle.in_chain.proofs.TurnLemmas.{turns_are_bounded, turns_are_left}
use Rattle.in_chain.proofs.laws.turns_are_bounded.Goals as goal

pub returns-clause-bounded : goal.returns-clause-bounded
returns-clause-bounded c = turns_are_bounded

pub returns-clause-left : goal.returns-clause-left
returns-clause-left c = turns_are_left
