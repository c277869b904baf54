use Rattle.stage_determinism.proofs.OneLemmas as one
use Rattle.stage_determinism.proofs.a_turn_of_a_walk_is_one.Goals as goal

pub returns : goal.returns
returns g c = one.walk_is_one
