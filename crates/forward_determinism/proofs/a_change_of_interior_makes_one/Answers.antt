use Rattle.forward_determinism.proofs.TurnLemmas as turns
use Rattle.forward_determinism.proofs.a_change_of_interior_makes_one.Goals as goal

pub returns-clause-interior : goal.returns-clause-interior
returns-clause-interior c = turns.interior_is_one

pub returns-clause-reached : goal.returns-clause-reached
returns-clause-reached c = turns.reached_is_one c.what_is_known_is_one.ensures.stale
