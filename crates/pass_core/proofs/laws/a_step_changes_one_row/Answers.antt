use Rattle.pass_core.proofs.SplitLemmas.{split_begins, split_is_in_force, split_is_fresh, split_steps, split_sends, split_ends}
use Rattle.pass_core.proofs.laws.a_step_changes_one_row.Goals as goal

pub returns : goal.returns
returns g c = record { begins = split_begins; beyond = split_is_in_force; behind = split_is_fresh; steps = split_steps; sends = split_sends; ends = split_ends }
