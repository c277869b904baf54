use Rattle.rib_split.proofs.MergedLemmas.{moved_changes_once}
use Rattle.rib_split.proofs.laws.a_moved_row_changes_once.Goals as goal

pub returns : goal.returns
returns c = moved_changes_once
