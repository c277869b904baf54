use Rattle.rib_exit.proofs.LawLemmas.{ext_is_of_best, candidates_are_of_best}
use Rattle.rib_exit.proofs.laws.the_rows_are_of_best.Goals as goal

pub returns-clause-rows : goal.returns-clause-rows
returns-clause-rows c = ext_is_of_best

pub returns-clause-candidates : goal.returns-clause-candidates
returns-clause-candidates c = candidates_are_of_best
