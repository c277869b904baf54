use Rattle.std.proofs.Common.{ap}
use Rattle.rib_tree.specs.Branches.{Branch}
use Rattle.rib_tree.proofs.StepLemmas.{sweeps_nothing, sweeps_quietly, sweeps_on, is_tree, is_full_but}
use Rattle.rib_tree.proofs.tree.Tree.sweep.Goals as goal

pub returns-in-Nothing-clause-taken : goal.returns-in-Nothing-clause-taken
returns-in-Nothing-clause-taken g c =
    let taken = rw c.in-Nothing.is at c.in_ok-sweep_branch.ensures.taken in
    sweeps_nothing c.args.proto c.args.loss c.args.self.now c.sweep_branch.new.self c.sweep_branch.ensures.others (c.requires.tree.placed c.args.proto) c.sweep_branch.ensures.kept c.args.journal.now c.sweep_branch.new.journal taken

pub returns-in-Nothing-clause-tree : goal.returns-in-Nothing-clause-tree
returns-in-Nothing-clause-tree g c =
    is_tree c.args.proto c.args.self.now c.sweep_branch.new.self c.sweep_branch.ensures.others c.requires.tree c.in_ok-sweep_branch.ensures.branch (ap (λ (b : Branch). b.proto) c.sweep_branch.ensures.kept)

pub returns-in-Quiet-clause-taken : goal.returns-in-Quiet-clause-taken
returns-in-Quiet-clause-taken g c =
    let taken = rw c.in-Quiet.is at c.in_ok-sweep_branch.ensures.taken in
    sweeps_quietly c.args.proto c.args.loss c.args.self.now c.sweep_branch.new.self c.sweep_branch.ensures.others (c.requires.tree.placed c.args.proto) c.sweep_branch.ensures.kept c.args.journal.now c.sweep_branch.new.journal taken

pub returns-in-Quiet-clause-tree : goal.returns-in-Quiet-clause-tree
returns-in-Quiet-clause-tree g c =
    is_tree c.args.proto c.args.self.now c.sweep_branch.new.self c.sweep_branch.ensures.others c.requires.tree c.in_ok-sweep_branch.ensures.branch (ap (λ (b : Branch). b.proto) c.sweep_branch.ensures.kept)

pub returns-in_ok-sent-in-Sent-clause-taken : goal.returns-in_ok-sent-in-Sent-clause-taken
returns-in_ok-sent-in-Sent-clause-taken g c =
    let taken = rw c.in-Sent.is at c.in_ok-sweep_branch.ensures.taken in
    rw c.taken.ensures
    (sweeps_on c.args.proto c.args.loss c.args.self.now c.sweep_branch.new.self c.sweep_branch.ensures.others (c.requires.tree.placed c.args.proto) c.sweep_branch.ensures.kept c.in-Sent.change c.in_ok-sent-in-Sent.sent
    c.args.journal.now c.sweep_branch.new.journal c.pass_down.new.journal taken c.in_ok-sent-in-Sent.ensures)

pub returns-in_ok-sent-in-Sent-clause-tree : goal.returns-in_ok-sent-in-Sent-clause-tree
returns-in_ok-sent-in-Sent-clause-tree g c =
    is_tree c.args.proto c.args.self.now c.sweep_branch.new.self c.sweep_branch.ensures.others c.requires.tree c.in_ok-sweep_branch.ensures.branch (ap (λ (b : Branch). b.proto) c.sweep_branch.ensures.kept)

pub returns-in_ok-sent-in-Sent-clause-full : goal.returns-in_ok-sent-in-Sent-clause-full
returns-in_ok-sent-in-Sent-clause-full g c =
    is_full_but c.args.proto c.args.self.now c.sweep_branch.new.self c.sweep_branch.ensures.others c.requires.full c.in_ok-sweep_branch.ensures.one_empty
