use Rattle.std.proofs.Common.{ap, ◌∙◌, cond, false}
use Rattle.std.specs.BTreeSet as set
use Rattle.nexthop_known.specs.Ties.{holding_cmp, is_own, other_than}
use Rattle.nexthop_known.proofs.TieLemmas.{put_tied, back_tied}
use Rattle.nexthop_known.proofs.index.put.Goals as goal

pub returns-in-Err-clause-tied : goal.returns-in-Err-clause-tied
returns-in-Err-clause-tied g c =
    back_tied c.args.hops.now c.insert-2.new.self c.args.stale.now c.args.held.now c.insert.new.self c.remove.new.self c.args.hop c.args.subnet c.requires.tied c.in-Err.ensures.err c.in-Err.ensures.absent c.in_ok-insert.ensures.updates.0 c.remove.ensures.updates.0

pub returns-in-Ok-clause-tied : goal.returns-in-Ok-clause-tied
returns-in-Ok-clause-tied g c =
    put_tied c.args.hops.now c.insert-2.new.self c.args.stale.now c.remove-in-Ok.new.self c.args.held.now c.insert.new.self c.leave.new.held c.args.hop c.args.subnet c.args.row c.requires.came c.requires.tied c.in-Ok.ensures.updates.0
    c.remove-in-Ok.ensures.updates.0 c.in_ok-insert.ensures.updates.0
    (λ k. c.leave.ensures k ∙ ap (λ o. cond (is_own c.args.hop o k) false (set.contains holding_cmp c.insert.new.self k)) (c.other_than.ensures ∙ ap (other_than c.args.subnet) c.came_at-before.ensures))
