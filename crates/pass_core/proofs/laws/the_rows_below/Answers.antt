use Rattle.pass_core.proofs.TurnLemmas.{exact_unless_held_up, none_lags_without_a_walk, an_edit_keeps_the_rows, passed_is_covered, change_is_passed_on}
use Rattle.pass_core.proofs.laws.the_rows_below.Goals as goal

pub returns : goal.returns
returns g c = record { exact = exact_unless_held_up; idle = none_lags_without_a_walk; edit = an_edit_keeps_the_rows; covered = passed_is_covered; change = change_is_passed_on }
