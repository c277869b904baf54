use Rattle.best_path.proofs.NearestLemmas.{local_is_best}
use Rattle.best_path.proofs.PickLemmas.{picked_left}
use Rattle.best_path.proofs.decide.best_by_steps.Goals as goal

pub returns-in-None : goal.returns-in-None
returns-in-None c = λ routes is.
    local_is_best routes c.args.candidates.now is c.in-None.ensures.lead c.first_local.result (c.first_local.ensures routes is)

pub returns-in-Some : goal.returns-in-Some
returns-in-Some c = λ routes is.
    picked_left routes c.first_left.result (c.in-Some.ensures.local routes is) (c.first_left.ensures routes is)
