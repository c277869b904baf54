use Rattle.router_moments.proofs.Common.{◌∙◌, ap, refl, Route, Rows}
use Rattle.std.proofs.Common.{is_some}
use Rattle.router_network.specs.contracts.network.Network.{the_view}
use Rattle.router_network.proofs.AboveRows.{known_above}
use Rattle.router_network.proofs.ReadStands.{best_lent}
use Rattle.router_network.proofs.network.Network.has_best.Goals as goal

pub has-requires : goal.has-requires
has-requires g c = (known_above _ c.self.inside.above (the_view g.row.F g.F.Family g.F.Clone c.self.inside) _ c.self.view_is c.requires.informed).knows

pub returns : goal.returns
returns g c = c.has.ensures ∙ ap (λ (r : Rows Route). is_some (r c.args.p)) (best_lent c.self.inside.above c.self.inside.above (the_view g.row.F g.F.Family g.F.Clone c.self.inside) c.args.self.now refl c.self.view_is)
