use Rattle.std.proofs.Common.{ap, ◌∙◌, cond, false}
use Rattle.std.specs.BTreeSet as set
use Rattle.nexthop_known.specs.Ties.{holding_cmp, is_own}
use Rattle.nexthop_known.proofs.TieLemmas.{taken_tied}
use Rattle.nexthop_known.proofs.index.take_out.Goals as goal

pub returns-clause-tied : goal.returns-clause-tied
returns-clause-tied g c =
    taken_tied c.args.hops.now c.remove.new.self c.args.stale.now c.remove-2.new.self c.args.held.now c.leave.new.held c.args.hop c.requires.tied c.remove.ensures.updates.0 c.remove-2.ensures.updates.0
    (λ k. c.leave.ensures k ∙ ap (λ o. cond (is_own c.args.hop o k) false (set.contains holding_cmp c.args.held.now k)) c.came_at-came.ensures)
