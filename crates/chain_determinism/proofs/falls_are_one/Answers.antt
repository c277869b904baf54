use Rattle.chain_determinism.proofs.FrontLemmas as falls
use Rattle.chain_determinism.proofs.falls_are_one.Goals as goal

pub returns-clause-front : goal.returns-clause-front
returns-clause-front g c = falls.front_is_one

pub returns-clause-fall : goal.returns-clause-fall
returns-clause-fall g c = falls.fall_is_one
