use Rattle.std.proofs.Common.{subst}
use Rattle.rib_merge.specs.declared.merge.Side.{Side}
use Rattle.rib_merge.specs.Merging.{MergesOn}
use Rattle.rib_tree.specs.Trees.{interior_distance}
use Rattle.rib_tree.specs.Merges.{sent_if}
use Rattle.rib_tree.proofs.MergeLemmas.{merges_below}
use Rattle.rib_tree.proofs.tree.Tree.merge_below.Goals as goal

pub returns : goal.returns
returns g c =
    let P : Side → Type 0 = λ s. MergesOn interior_distance s c.args.change.now c.in_ok-other.other (sent_if c.merge.result c.merge.new.change) in
    merges_below c.args.proto c.args.self.now c.args.change.now c.in_ok-other.other (sent_if c.merge.result c.merge.new.change) c.in_ok-other.ensures (subst P c.next_side.ensures c.merge.ensures)
