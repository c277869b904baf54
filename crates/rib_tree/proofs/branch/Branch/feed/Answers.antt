use Rattle.rib_tree.specs.Branches.{Branch}
use Rattle.rib_tree.proofs.OwnLemmas.{branch_fed}
use Rattle.rib_tree.proofs.branch.Branch.feed.Goals as goal

pub returns-clause-chain : goal.returns-clause-chain
returns-clause-chain g c =
    let is = rw (← c.self.view_is) at c.requires.chain in
    let own = rw (← c.self.view_is) at c.requires.own in
    let old : Branch = record { proto = c.self.inside.proto; losses = c.self.inside.losses; tables = c.self.inside.stages } in
    branch_fed old is c.feed.new.self c.in_ok-sent.ensures.chain c.args.p c.args.new own c.in_ok-sent.ensures.after
