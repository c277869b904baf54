use Rattle.router_moments.proofs.Common.{sym, true, false, ◌∙◌}
use Rattle.router_network.specs.contracts.network.Network.{the_view}
use Rattle.router_moments.proofs.RefreshTurns.{refresh_is, unserved_is}
use Rattle.router_network.proofs.StepLemmas.{served}
use Rattle.router_network.proofs.network.Network.refresh.Goals as goal

pub returns-then-is_served : goal.returns-then-is_served
returns-then-is_served g c = refresh_is c.args.self.now (the_view g.row.F g.F.Family g.F.Clone c.self.inside) c.args.number c.args.refresh c.refresh.new.self c.self.view_is c.refresh.ensures (served g.F.Family.V6 _ c.args.self.now c.args.refresh true c.known.ensures.profile.second c.self.view_is (sym c.is_served.ensures ∙ c.if-is_served.true))

pub returns-else-is_served : goal.returns-else-is_served
returns-else-is_served g c = unserved_is c.args.self.now c.args.number c.args.refresh (served g.F.Family.V6 _ c.args.self.now c.args.refresh false c.known.ensures.profile.second c.self.view_is (sym c.is_served.ensures ∙ c.if-is_served.false))
