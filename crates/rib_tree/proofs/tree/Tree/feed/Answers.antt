use Rattle.std.proofs.Common.{ap}
use Rattle.rib_tree.specs.Branches.{Branch}
use Rattle.rib_tree.proofs.StepLemmas.{fed_quietly, fed_on, is_tree, is_full_but}
use Rattle.rib_tree.proofs.tree.Tree.feed.Goals as goal

pub returns-in_default-clause-lines : goal.returns-in_default-clause-lines
returns-in_default-clause-lines g c =
    let rows = rw c.in_default.is at c.in_ok-change.ensures.sent in
    let lines = rw c.in_default.is at c.in_ok-change.ensures.lines in
    fed_quietly c.args.proto c.args.self.now c.feed_branch.new.self c.feed_branch.ensures.others (c.requires.tree.placed c.args.proto) c.args.p c.args.journal.now c.feed_branch.new.journal rows lines

pub returns-in_default-clause-tree : goal.returns-in_default-clause-tree
returns-in_default-clause-tree g c =
    let same = ap (λ (b : Branch). b.proto) c.in_ok-change.ensures.after in
    is_tree c.args.proto c.args.self.now c.feed_branch.new.self c.feed_branch.ensures.others c.requires.tree c.in_ok-change.ensures.branch same

pub returns-clause-sent : goal.returns-clause-sent
returns-clause-sent g c =
    let is = rw c.in-Some.is at c.in_ok-change.ensures.sent in
    let pass = c.in_ok-sent.ensures c.args.self.now c.args.p c.feed_branch.ensures.others is in
    pass.2.rows

pub returns-clause-lines : goal.returns-clause-lines
returns-clause-lines g c =
    let is = rw c.in-Some.is at c.in_ok-change.ensures.sent in
    let lines = rw c.in-Some.is at c.in_ok-change.ensures.lines in
    let pass = c.in_ok-sent.ensures c.args.self.now c.args.p c.feed_branch.ensures.others is in
    fed_on c.args.proto c.args.self.now c.feed_branch.new.self c.feed_branch.ensures.others (c.requires.tree.placed c.args.proto) c.args.p c.in-Some.change c.in_ok-sent.sent c.args.journal.now c.feed_branch.new.journal c.pass_down.new.journal lines pass

pub returns-clause-tree : goal.returns-clause-tree
returns-clause-tree g c =
    let same = ap (λ (b : Branch). b.proto) c.in_ok-change.ensures.after in
    is_tree c.args.proto c.args.self.now c.feed_branch.new.self c.feed_branch.ensures.others c.requires.tree c.in_ok-change.ensures.branch same

pub returns-clause-full : goal.returns-clause-full
returns-clause-full g c = is_full_but c.args.proto c.args.self.now c.feed_branch.new.self c.feed_branch.ensures.others c.requires.full c.in_ok-change.ensures.one_empty
