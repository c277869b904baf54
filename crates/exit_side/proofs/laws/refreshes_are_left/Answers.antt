use Rattle.exit_side.proofs.RefreshLemmas.{standing_are_chains, refresh_is_listed, none_left_without_refresh, resend_leaves_fewer, refreshes_bounded}
use Rattle.exit_side.proofs.laws.refreshes_are_left.Goals as goal

pub returns-clause-chains : goal.returns-clause-chains
returns-clause-chains c = standing_are_chains

pub returns-clause-listed : goal.returns-clause-listed
returns-clause-listed c = refresh_is_listed

pub returns-clause-none : goal.returns-clause-none
returns-clause-none c = none_left_without_refresh

pub returns-clause-fewer : goal.returns-clause-fewer
returns-clause-fewer c = resend_leaves_fewer

pub returns-clause-bounded : goal.returns-clause-bounded
returns-clause-bounded c = refreshes_bounded
