use Rattle.router_moments.proofs.Common.{sym, ◌∙◌, ap}
use Rattle.std.specs.Prelude.{option_map}
use Rattle.nexthop_resolver.specs.Kept.{external_hop}
use Rattle.router_network.specs.contracts.network.Network.{the_view}
use Rattle.router_network.proofs.AboveRows.{known_above}
use Rattle.router_network.proofs.ReadStands.{best_lent, read_row}
use Rattle.router_network.proofs.network.Network.external_hop.Goals as goal

pub best-best-requires-clause-known : goal.best-best-requires-clause-known
best-best-requires-clause-known g c = (known_above _ c.self.inside.above (the_view g.row.F g.F.Family g.F.Clone c.self.inside) _ c.self.view_is c.requires.informed).knows

pub best-best-requires-clause-counted : goal.best-best-requires-clause-counted
best-best-requires-clause-counted g c = (known_above _ c.self.inside.above (the_view g.row.F g.F.Family g.F.Clone c.self.inside) _ c.self.view_is c.requires.informed).counts

pub returns-in_err-row : goal.returns-in_err-row
returns-in_err-row g c =
    c.from_residual.ensures ∙ ap (option_map external_hop)
    (sym c.in_err-row.was ∙ read_row c.read_routes.result.exits.now _ _ c.args.self.now (best_lent c.read_routes.result.best.now.all.now c.self.inside.above (the_view g.row.F g.F.Family g.F.Clone c.self.inside) c.args.self.now (ap (λ (b : _). b.all.now) c.read_routes.ensures.best ∙ c.best-best.ensures) c.self.view_is)
    c.read_routes.ensures.exits c.read_routes.ensures.reader c.requires.readers c.args.p c.external.result c.external.ensures)

pub returns : goal.returns
returns g c =
    ap (option_map external_hop)
    (sym c.in_ok-row.was ∙ read_row c.read_routes.result.exits.now _ _ c.args.self.now (best_lent c.read_routes.result.best.now.all.now c.self.inside.above (the_view g.row.F g.F.Family g.F.Clone c.self.inside) c.args.self.now (ap (λ (b : _). b.all.now) c.read_routes.ensures.best ∙ c.best-best.ensures) c.self.view_is)
    c.read_routes.ensures.exits c.read_routes.ensures.reader c.requires.readers c.args.p c.external.result c.external.ensures)
