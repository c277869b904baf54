use Rattle.std.proofs.Common.{◌∙◌, sym, ap, None}
use Rattle.decision.specs.Lineups.{at_prefix, with_own, chosen}
use Rattle.decision.proofs.LineupLemmas.{chosen_beside}
use Rattle.decision.proofs.BestLemmas.{decides}
use Rattle.decision.proofs.winners.won_by.Goals as goal

pub returns-then-is_another : goal.returns-then-is_another
returns-then-is_another g c =
    let here = at_prefix (g.B.Branches.rows c.args.all.now) c.args.change.prefix in
    let another = c.is_another.ensures c.if-is_another.true in
    decides c.args.branch (g.B.Branches.rows c.args.all.now) c.args.change _ _ None c.requires.former c.requires.latter
    (chosen_beside c.args.branch c.args.change.after c.args.change.before here c.args.winners.latter another.1
    ∙ ap (chosen (with_own c.args.branch c.args.change.before here)) (sym another.0))

pub returns : goal.returns
returns g c =
    decides c.args.branch (g.B.Branches.rows c.args.all.now) c.args.change c.in_ok-before.before c.in_ok-after.after c.between.result
    (c.in_ok-before.ensures ∙ c.requires.former) (c.in_ok-after.ensures ∙ c.requires.latter) c.between.ensures
