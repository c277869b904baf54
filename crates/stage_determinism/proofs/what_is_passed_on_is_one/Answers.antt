use Rattle.stage_determinism.proofs.OneLemmas as one
use Rattle.stage_determinism.proofs.what_is_passed_on_is_one.Goals as goal

pub returns-clause-computed : goal.returns-clause-computed
returns-clause-computed g c = one.computed_is_one

pub returns-clause-passed : goal.returns-clause-passed
returns-clause-passed g c = one.passed_is_one
