use Rattle.std.proofs.Common.{◌≡◌, ap, subst, ◌∙◌}
use Rattle.rib_route.specs.declared.Proto.{Proto}
use Rattle.rib_merge.specs.declared.merge.Side.{Side}
use Rattle.rib_merge.specs.Merging.{MergesOn}
use Rattle.rib_tree.specs.Branches.{Branch, org_rows}
use Rattle.rib_tree.specs.Trees.{branch_of, interior_distance}
use Rattle.rib_tree.specs.Merges.{partner_of, sent_if}
use Rattle.rib_tree.proofs.MergeLemmas.{merges_into}
use Rattle.rib_tree.proofs.tree.Tree.merge_into.Goals as goal

pub returns : goal.returns
returns g c =
    let branch : c.branch-self.result.now ≡ branch_of (partner_of c.args.proto) c.args.self.now = c.branch-self.ensures ∙ ap (λ (k : Proto). branch_of k c.args.self.now) c.partner.ensures in
    let other : c.in_ok-other.other ≡ org_rows (branch_of (partner_of c.args.proto) c.args.self.now) c.args.change.now.prefix = c.in_ok-other.ensures ∙ ap (λ (b : Branch). org_rows b c.args.change.now.prefix) branch in
    let P : Side → Type 0 = λ s. MergesOn interior_distance s c.args.change.now c.in_ok-other.other (sent_if c.merge.result c.merge.new.change) in
    merges_into c.args.proto c.args.self.now c.args.change.now c.in_ok-other.other (sent_if c.merge.result c.merge.new.change) other (subst P c.side.ensures c.merge.ensures)
