use Rattle.rib_tree.proofs.CountLemmas.{loss_keeps_rows}
use Rattle.rib_tree.proofs.laws.losses_keep_rows.Goals as goal

pub returns : goal.returns
returns c = loss_keeps_rows
