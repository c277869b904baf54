use Rattle.router_moments.proofs.Common.{◌∙◌, ap}
use Rattle.router_network.specs.contracts.network.Network.{the_view}
use Rattle.router_network.proofs.AboveRows.{known_above}
use Rattle.router_network.proofs.ReadStands.{best_lent, parts_stand}
use Rattle.router_network.proofs.network.Network.take_interior.Goals as goal

pub best-best-requires-clause-known : goal.best-best-requires-clause-known
best-best-requires-clause-known g c = (known_above _ c.self.inside.above (the_view g.row.F g.F.Family g.F.Clone c.self.inside) _ c.self.view_is c.requires.informed).knows

pub best-best-requires-clause-counted : goal.best-best-requires-clause-counted
best-best-requires-clause-counted g c = (known_above _ c.self.inside.above (the_view g.row.F g.F.Family g.F.Clone c.self.inside) _ c.self.view_is c.requires.informed).counts

pub take_interior-requires : goal.take_interior-requires
take_interior-requires g c = record { stands = parts_stand c.read_routes-read.result.exits.now _ _ c.args.self.now (best_lent c.read_routes-read.result.best.now.all.now c.self.inside.above (the_view g.row.F g.F.Family g.F.Clone c.self.inside) c.args.self.now (ap (λ (b : _). b.all.now) c.read_routes-read.ensures.best ∙ c.best-best.ensures) c.self.view_is) c.read_routes-read.ensures.exits c.read_routes-read.ensures.reader (the_view g.row.F g.F.Family g.F.Clone c.self.inside) c.self.view_is c.requires.readers }
