use Rattle.forward_determinism.proofs.FallLemmas as falls
use Rattle.forward_determinism.proofs.SplitLemmas as splits
use Rattle.forward_determinism.proofs.a_change_of_best_makes_one.Goals as goal

pub returns-clause-split : goal.returns-clause-split
returns-clause-split c = splits.split_is_one

pub returns-clause-causes : goal.returns-clause-causes
returns-clause-causes c = splits.causes_are_one

pub returns-clause-fall : goal.returns-clause-fall
returns-clause-fall c = falls.fall_is_one c.what_is_known_is_one.ensures.kept

pub returns-clause-external : goal.returns-clause-external
returns-clause-external c = falls.external_is_one c.what_a_client_asks_is_one.ensures c.what_is_known_is_one.ensures.kept
