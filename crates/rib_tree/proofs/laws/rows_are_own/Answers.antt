use Rattle.rib_tree.proofs.OwnLemmas.{rows_are_own}
use Rattle.rib_tree.proofs.laws.rows_are_own.Goals as goal

pub returns : goal.returns
returns c = rows_are_own
