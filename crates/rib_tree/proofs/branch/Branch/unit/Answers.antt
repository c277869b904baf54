use Rattle.rib_tree.specs.Branches.{Branch}
use Rattle.rib_tree.proofs.OwnLemmas.{branch_taken}
use Rattle.rib_tree.proofs.branch.Branch.unit.Goals as goal

pub returns-clause-chain : goal.returns-clause-chain
returns-clause-chain g c =
    let is = rw (← c.self.view_is) at c.requires.chain in
    let old : Branch = record { proto = c.self.inside.proto; losses = c.self.inside.losses; tables = c.self.inside.stages } in
    branch_taken old is c.unit.new.self c.in_ok-turn.ensures.chain c.args.loss c.args.journal.now c.unit.new.journal c.in_ok-turn.turn c.in_ok-turn.ensures.taken
