use Rattle.rib_tree.specs.Branches.{Branch}
use Rattle.rib_tree.proofs.OwnLemmas.{branch_welded}
use Rattle.rib_tree.proofs.branch.Branch.weld.Goals as goal

pub returns-clause-leads : goal.returns-clause-leads
returns-clause-leads g c = rw (← c.self.view_is) c.in_ok-weld.ensures.leads

pub returns-clause-chain : goal.returns-clause-chain
returns-clause-chain g c =
    let is = rw (← c.self.view_is) at c.requires.chain in
    let old : Branch = record { proto = c.self.inside.proto; losses = c.self.inside.losses; tables = c.self.inside.stages } in
    branch_welded old is c.weld.new.self c.in_ok-weld.ensures.chain c.in_ok-weld.ensures.after
