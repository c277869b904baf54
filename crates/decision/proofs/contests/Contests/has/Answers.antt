use Rattle.std.proofs.Common.{◌∙◌, sym, ap, is_some}
use Rattle.std.specs.FinMap as tables
use Rattle.decision.specs.Lineups.{at_prefix, chosen}
use Rattle.decision.proofs.KnowLemmas.{knows_best}
use Rattle.decision.proofs.contests.Contests.has.Goals as goal

pub returns-in-None : goal.returns-in-None
returns-in-None g c =
    let rows = g.B.Branches.rows c.args.all.now in
    let p = c.args.prefix.now in
    ap is_some (ap (chosen (at_prefix rows p)) (sym c.in-None.is ∙ c.winner.ensures) ∙ knows_best rows p (tables.get c.args.self.now p) (c.requires p))

pub returns-in-Some : goal.returns-in-Some
returns-in-Some g c =
    let rows = g.B.Branches.rows c.args.all.now in
    let p = c.args.prefix.now in
    let is = ap (chosen (at_prefix rows p)) (sym c.in-Some.is ∙ c.winner.ensures) ∙ knows_best rows p (tables.get c.args.self.now p) (c.requires p) in
    ◌∙◌ {b = is_some (rows c.in-Some.number p)} c.has.ensures (ap is_some is)
