use Rattle.decision.proofs.LawLemmas.{best_is_a_branchs}
use Rattle.decision.proofs.laws.the_best_is_a_branches.Goals as goal

pub returns : goal.returns
returns c = best_is_a_branchs
