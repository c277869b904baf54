use Rattle.rib_tree.proofs.CountLemmas.{turn_takes_row}
use Rattle.rib_tree.proofs.laws.turns_take_rows.Goals as goal

pub returns : goal.returns
returns c = turn_takes_row
