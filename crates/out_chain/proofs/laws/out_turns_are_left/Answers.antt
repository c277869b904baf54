use Rattle.out_chain.proofs.LawLemmas.{no_turns_without_work, out_turns_are_bounded}
use Rattle.out_chain.proofs.laws.out_turns_are_left.Goals as goal

pub returns-clause-none : goal.returns-clause-none
returns-clause-none c = no_turns_without_work

pub returns-clause-bounded : goal.returns-clause-bounded
returns-clause-bounded c = out_turns_are_bounded
