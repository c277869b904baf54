use Rattle.chain_determinism.proofs.StageLemmas as stages
use Rattle.chain_determinism.proofs.stages_take_one_row.Goals as goal

pub returns-clause-least : goal.returns-clause-least
returns-clause-least g c = stages.least_row_is_one

pub returns-clause-stage : goal.returns-clause-stage
returns-clause-stage g c = stages.stage_row_is_one
