use Rattle.std.proofs.Common.{◌≡◌, ◌∙◌, true, Option, sym, ap, subst}
use Rattle.link_change.specs.Rows.{Rows}
use Rattle.bgp_attr.specs.Routes.{Route}
use Rattle.filter_bank.specs.Outgoing.{ComesFrom}
use Rattle.decision.specs.Lineups.{at_prefix, chosen}
use Rattle.decision.proofs.best.BestRouteUpstream.is_from.Goals as goal

pub returns-in-Some : goal.returns-in-Some
returns-in-Some g c =
    let rows = g.B.Branches.rows c.args.self.now.all.now in
    let p = c.args.p.now in
    let is = ap (chosen (at_prefix rows p)) (sym c.in-Some.is ∙ c.winner.ensures) ∙ ap (λ (r : Rows Route). r p) c.args.self.now.known in
    λ from. subst (ComesFrom c.args.number) is (c.is_from.ensures from p)
