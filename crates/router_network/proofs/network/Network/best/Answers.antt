use Rattle.router_moments.proofs.Common.{subst, refl, ◌≡◌, Route, Rows}
use Rattle.std.specs.Prelude.{IfOk}
use Rattle.router_network.specs.contracts.network.Network.{the_view}
use Rattle.router_network.proofs.AboveRows.{known_above}
use Rattle.router_network.proofs.ReadStands.{best_lent}
use Rattle.router_network.proofs.network.Network.best.Goals as goal

pub returns : goal.returns
returns g c = subst (λ (r : Rows Route). IfOk c.asked.result (λ row. row ≡ r c.args.p)) (best_lent c.self.inside.above c.self.inside.above (the_view g.row.F g.F.Family g.F.Clone c.self.inside) c.args.self.now refl c.self.view_is) c.asked.ensures

pub asked-requires : goal.asked-requires
asked-requires g c = (known_above _ c.self.inside.above (the_view g.row.F g.F.Family g.F.Clone c.self.inside) _ c.self.view_is c.requires.informed).knows
