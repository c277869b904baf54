use Rattle.std.proofs.Common.{subst}
use Rattle.addr4.specs.Places.{key_of}
use Rattle.link_change.specs.Rows.{Candidates, IsNextCandidate, with_rows}
use Rattle.rib_tree.specs.Trees.{low_rows, dyn_rows}
use Rattle.rib_tree.proofs.LookupLemmas.{both_are}
use Rattle.rib_tree.proofs.tree.Tree.int_next.Goals as goal

pub returns : goal.returns
returns g c =
    let low = low_rows c.args.self.now in
    let dynamic = dyn_rows c.args.self.now in
    let P : Candidates → Type 0 = λ k. IsNextCandidate k (key_of c.args.after.now) c.nearer.result in
    subst P (both_are low dynamic) (c.nearer.ensures (with_rows low) (with_rows dynamic) (key_of c.args.after.now) c.low_next-low.ensures c.dyn_next-dynamic.ensures)
