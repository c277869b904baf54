use Rattle.out_chain.proofs.LawLemmas.{best_row_tells}
use Rattle.out_chain.proofs.laws.the_best_row_tells.Goals as goal

pub returns : goal.returns
returns c = best_row_tells
