use Rattle.std.proofs.Common.{◌+◌, cond, ap, ◌∙◌}
use Rattle.rib_tree.specs.Branches.{Branch}
use Rattle.rib_tree.proofs.OwnLemmas.{branch_lost}
use Rattle.rib_tree.proofs.branch.Branch.lose.Goals as goal

pub returns-clause-leads : goal.returns-clause-leads
returns-clause-leads g c = rw (← c.self.view_is) c.in_ok-lose.ensures.leads

pub returns-clause-chain : goal.returns-clause-chain
returns-clause-chain g c =
    let is = rw (← c.self.view_is) at c.requires.chain in
    let old : Branch = record { proto = c.self.inside.proto; losses = c.self.inside.losses; tables = c.self.inside.stages } in
    branch_lost old is c.lose.new.self c.in_ok-lose.ensures.chain c.counted-losses.result (c.counted-losses.ensures ∙ ap (λ b. cond b old.losses (old.losses + 1)) c.has_no_live.ensures) c.in_ok-lose.ensures.after
