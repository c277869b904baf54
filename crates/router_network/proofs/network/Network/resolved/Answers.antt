use Rattle.router_moments.proofs.Common.{sym, ◌∙◌, ap, option_copied}
use Rattle.std.proofs.Common.{Some, None}
use Rattle.router_network.proofs.ShownRows.{has_resolved}
use Rattle.router_network.proofs.network.Network.resolved.Goals as goal

pub returns-in-Some-2 : goal.returns-in-Some-2
returns-in-Some-2 g c =
    has_resolved c.args.self.now _ c.args.link c.in-Res.number c.args.p c.in-Some.chain.now (Some c.in-Some-2.route) c.self.view_is c.in-Res.is (sym (ap option_copied c.in-Some.is) ∙ c.chain.ensures) c.requires (sym c.in-Some-2.is ∙ c.in_ok-route.ensures)

pub returns-in-None : goal.returns-in-None
returns-in-None g c =
    has_resolved c.args.self.now _ c.args.link c.in-Res.number c.args.p c.in-Some.chain.now None c.self.view_is c.in-Res.is (sym (ap option_copied c.in-Some.is) ∙ c.chain.ensures) c.requires (sym c.in-None.is ∙ c.in_ok-route.ensures)
