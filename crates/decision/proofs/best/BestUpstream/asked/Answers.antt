use Rattle.std.proofs.Common.{◌≡◌, ◌∙◌, sym, ap}
use Rattle.std.proofs.lemmas.Result.{IfOk-weaker}
use Rattle.link_change.specs.Rows.{Rows}
use Rattle.bgp_attr.specs.Routes.{Route}
use Rattle.decision.specs.Branches.{best_rows}
use Rattle.decision.specs.Lineups.{at_prefix, chosen}
use Rattle.decision.proofs.best.BestUpstream.asked.Goals as goal

pub returns-in-None : goal.returns-in-None
returns-in-None g c =
    let rows = g.B.Branches.rows c.args.self.now.all.now in
    let p = c.args.p.now in
    ap (chosen (at_prefix rows p)) (sym c.in-None.is ∙ c.winner.ensures) ∙ ap (λ (r : Rows Route). r p) c.args.self.now.known

pub returns-in-Some : goal.returns-in-Some
returns-in-Some g c =
    let rows = g.B.Branches.rows c.args.self.now.all.now in
    let p = c.args.p.now in
    let is = ap (chosen (at_prefix rows p)) (sym c.in-Some.is ∙ c.winner.ensures) ∙ ap (λ (r : Rows Route). r p) c.args.self.now.known in
    IfOk-weaker c.asked.result (λ row. row ≡ rows c.in-Some.number p) (λ row. row ≡ best_rows rows p) (λ row same. same ∙ is) c.asked.ensures
