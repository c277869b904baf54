use Rattle.router_moments.proofs.Common.{sym, ◌∙◌}
use Rattle.std.proofs.Common.{Some, None}
use Rattle.router_network.proofs.ShownRows.{has_best}
use Rattle.router_network.proofs.network.Network.decided.Goals as goal

pub returns-in-Some : goal.returns-in-Some
returns-in-Some g c = has_best c.args.self.now c.args.link c.args.p (Some c.in-Some.route) c.requires.live (sym c.in-Some.is ∙ c.in_ok-route.ensures)

pub returns-in-None : goal.returns-in-None
returns-in-None g c = has_best c.args.self.now c.args.link c.args.p None c.requires.live (sym c.in-None.is ∙ c.in_ok-route.ensures)
