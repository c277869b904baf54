use Rattle.std.proofs.Common.{List, ap, subst, ◌∙◌}
use Rattle.journal_text.specs.Lines.{Entry}
use Rattle.journal_text.specs.Lines.{Value}
use Rattle.journal_text.specs.Journals.{with_entries}
use Rattle.rib_tree.specs.Branches.{Branch, LeadsBranch}
use Rattle.rib_tree.specs.Trees.{branch_of}
use Rattle.rib_tree.specs.Steps.{tree_weld_entries}
use Rattle.rib_tree.proofs.StepLemmas.{leads_on, is_tree, is_full_again, weld_placed}
use Rattle.rib_tree.proofs.tree.Tree.weld.Goals as goal

pub returns-clause-lines : goal.returns-clause-lines
returns-clause-lines g c = c.in_ok-weld_branch.ensures.lines ∙ ap (with_entries c.args.journal.now) (weld_placed c.args.proto c.args.self.now (c.requires.tree.placed c.args.proto))

pub returns-clause-leads : goal.returns-clause-leads
returns-clause-leads g c =
    let P : List (Entry Value) → Type 0 = λ es. LeadsBranch (branch_of c.args.proto c.args.self.now) es (branch_of c.args.proto c.weld_branch.new.self) in
    leads_on c.args.proto c.args.self.now c.weld_branch.new.self c.weld_branch.ensures.others (c.requires.tree.placed c.args.proto) (tree_weld_entries c.args.proto c.args.self.now)
    (subst P (weld_placed c.args.proto c.args.self.now (c.requires.tree.placed c.args.proto)) c.in_ok-weld_branch.ensures.leads) c.in_ok-weld_branch.ensures.rows

pub returns-clause-tree : goal.returns-clause-tree
returns-clause-tree g c =
    let same = ap (λ (b : Branch). b.proto) c.in_ok-weld_branch.ensures.after in
    is_tree c.args.proto c.args.self.now c.weld_branch.new.self c.weld_branch.ensures.others c.requires.tree c.in_ok-weld_branch.ensures.branch same

pub returns-clause-full : goal.returns-clause-full
returns-clause-full g c = is_full_again c.args.proto c.args.self.now c.weld_branch.new.self c.weld_branch.ensures.others c.requires.full c.in_ok-weld_branch.ensures.full
