use Rattle.rib_tree.proofs.CountLemmas.{weld_keeps_rows}
use Rattle.rib_tree.proofs.laws.welds_keep_rows.Goals as goal

pub returns : goal.returns
returns c = weld_keeps_rows
