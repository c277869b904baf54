use Rattle.router_moments.proofs.Common.{sym, ◌∙◌, ap, Route, Rows}
use Rattle.std.proofs.Common.{Some, None}
use Rattle.router_moments.proofs.BestLemmas.{own_is}
use Rattle.router_network.specs.contracts.network.Network.{the_view}
use Rattle.router_network.proofs.AboveRows.{above_of}
use Rattle.router_network.proofs.ShownRows.{has_own}
use Rattle.router_network.proofs.network.Network.own.Goals as goal

pub returns-in-Some : goal.returns-in-Some
returns-in-Some g c =
    let is = above_of c.self.inside.above (the_view g.row.F g.F.Family g.F.Clone c.self.inside) c.args.self.now c.self.view_is in
    has_own c.args.self.now c.args.link c.args.p (Some c.in-Some.route) c.requires
    (sym c.in-Some.is ∙ c.in_ok-route.ensures ∙ ap (λ (rows : Rows Route). rows c.args.p) (own_is c.args.self.now _ _ _ _ _ is.declared is.tree is.redist is.chains is.hops))

pub returns-in-None : goal.returns-in-None
returns-in-None g c =
    let is = above_of c.self.inside.above (the_view g.row.F g.F.Family g.F.Clone c.self.inside) c.args.self.now c.self.view_is in
    has_own c.args.self.now c.args.link c.args.p None c.requires
    (sym c.in-None.is ∙ c.in_ok-route.ensures ∙ ap (λ (rows : Rows Route). rows c.args.p) (own_is c.args.self.now _ _ _ _ _ is.declared is.tree is.redist is.chains is.hops))
