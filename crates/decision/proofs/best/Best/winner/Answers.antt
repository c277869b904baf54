use Rattle.std.proofs.Common.{◌∙◌, sym, ap}
use Rattle.link_change.specs.Rows.{Rows}
use Rattle.bgp_attr.specs.Routes.{Route}
use Rattle.decision.specs.Lineups.{at_prefix, chosen}
use Rattle.decision.proofs.best.Best.winner.Goals as goal

pub returns : goal.returns
returns g c =
    let rows = g.B.Branches.rows c.args.self.now.all.now in
    let p = c.args.p.now in
    sym (ap (chosen (at_prefix rows p)) c.winner.ensures ∙ ap (λ (r : Rows Route). r p) c.args.self.now.known)
