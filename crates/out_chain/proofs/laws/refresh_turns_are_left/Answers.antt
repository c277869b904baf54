use Rattle.out_chain.proofs.RefreshLemmas.{none_left_without_refresh, over_without_rows_beyond, refresh_is_bounded}
use Rattle.out_chain.proofs.laws.refresh_turns_are_left.Goals as goal

pub returns-clause-none : goal.returns-clause-none
returns-clause-none c = none_left_without_refresh

pub returns-clause-over : goal.returns-clause-over
returns-clause-over c = over_without_rows_beyond

pub returns-clause-bounded : goal.returns-clause-bounded
returns-clause-bounded c = refresh_is_bounded
