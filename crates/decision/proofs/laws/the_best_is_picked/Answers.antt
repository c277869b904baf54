use Rattle.decision.proofs.LawLemmas.{best_is_picked}
use Rattle.decision.proofs.laws.the_best_is_picked.Goals as goal

pub returns : goal.returns
returns c = best_is_picked
