use Rattle.decision.proofs.LawLemmas.{best_is_of_its_prefix}
use Rattle.decision.proofs.laws.the_best_is_of_its_prefix.Goals as goal

pub returns : goal.returns
returns c = best_is_of_its_prefix
