use Rattle.std.proofs.Common.{ap}
use Rattle.rib_tree.specs.Branches.{Branch}
use Rattle.rib_tree.specs.Steps.{tree_loss_entries}
use Rattle.rib_tree.proofs.StepLemmas.{leads_on, is_tree, is_full}
use Rattle.rib_tree.proofs.tree.Tree.lose.Goals as goal

pub returns-clause-leads : goal.returns-clause-leads
returns-clause-leads g c =
    leads_on c.args.proto c.args.self.now c.lose_branch.new.self c.lose_branch.ensures.others (c.requires.tree.placed c.args.proto) (tree_loss_entries c.args.proto c.args.self.now) c.in_ok-lose_branch.ensures.leads
    c.in_ok-lose_branch.ensures.rows

pub returns-clause-tree : goal.returns-clause-tree
returns-clause-tree g c =
    let same = ap (λ (b : Branch). b.proto) c.in_ok-lose_branch.ensures.after in
    is_tree c.args.proto c.args.self.now c.lose_branch.new.self c.lose_branch.ensures.others c.requires.tree c.in_ok-lose_branch.ensures.branch same

pub returns-clause-full : goal.returns-clause-full
returns-clause-full g c = is_full c.args.proto c.args.self.now c.lose_branch.new.self c.lose_branch.ensures.others c.requires.full c.in_ok-lose_branch.ensures.full
