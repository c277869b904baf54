use Rattle.stage_determinism.proofs.OneLemmas as one
use Rattle.stage_determinism.proofs.the_next_candidate_is_one.Goals as goal

pub returns : goal.returns
returns c = one.next_is_one
