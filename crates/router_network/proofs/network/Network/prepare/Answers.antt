use Rattle.router_moments.proofs.Common.{ap, ◌∙◌, Exited}
use Rattle.router_network.specs.contracts.network.Network.{the_view}
use Rattle.router_moments.specs.Moments.{with_exits}
use Rattle.router_network.proofs.network.Network.prepare.Goals as goal

pub returns : goal.returns
returns g c = ap (λ (e : Exited). with_exits (the_view g.row.F g.F.Family g.F.Clone c.self.inside) e) c.prepare.ensures ∙ c.self.view_is
