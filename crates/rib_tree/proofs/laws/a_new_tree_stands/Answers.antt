use Rattle.rib_tree.proofs.NewLemmas.{new_stands}
use Rattle.rib_tree.proofs.laws.a_new_tree_stands.Goals as goal

pub returns : goal.returns
returns c = new_stands
