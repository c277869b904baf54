use Rattle.exit_determinism.proofs.ChainLemmas as one
use Rattle.exit_determinism.proofs.a_chain_is_one.Goals as goal

pub returns-clause-pass : goal.returns-clause-pass
returns-clause-pass c = one.passed_out_is_one

pub returns-clause-walk : goal.returns-clause-walk
returns-clause-walk c = one.walked_out_is_one

pub returns-clause-turn : goal.returns-clause-turn
returns-clause-turn c = one.turn_out_is_one

pub returns-clause-resend : goal.returns-clause-resend
returns-clause-resend c = one.resent_is_one
