use Rattle.std.proofs.Common.{◌≡◌, ◌∙◌, sym, ap}
use Rattle.std.specs.FinMap as tables
use Rattle.std.proofs.lemmas.Result.{IfOk-weaker}
use Rattle.decision.specs.Branches.{best_rows}
use Rattle.decision.specs.Lineups.{at_prefix, chosen}
use Rattle.decision.proofs.KnowLemmas.{knows_best}
use Rattle.decision.proofs.contests.Contests.asked.Goals as goal

pub returns-in-None : goal.returns-in-None
returns-in-None g c =
    let rows = g.B.Branches.rows c.args.all.now in
    let p = c.args.prefix.now in
    ap (chosen (at_prefix rows p)) (sym c.in-None.is ∙ c.winner.ensures) ∙ knows_best rows p (tables.get c.args.self.now p) (c.requires p)

pub returns-in-Some : goal.returns-in-Some
returns-in-Some g c =
    let rows = g.B.Branches.rows c.args.all.now in
    let p = c.args.prefix.now in
    let is = ap (chosen (at_prefix rows p)) (sym c.in-Some.is ∙ c.winner.ensures) ∙ knows_best rows p (tables.get c.args.self.now p) (c.requires p) in
    IfOk-weaker c.asked.result (λ row. row ≡ rows c.in-Some.number p) (λ row. row ≡ best_rows rows p) (λ row same. same ∙ is) c.asked.ensures
