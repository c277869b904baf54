use Rattle.router_moments.proofs.Common.{sym, ◌∙◌}
use Rattle.std.proofs.Common.{Some, None}
use Rattle.router_network.specs.contracts.network.Network.{the_view}
use Rattle.router_network.proofs.ReadLemmas.{read_has}
use Rattle.router_network.proofs.AboveRows.{known_above}
use Rattle.router_network.proofs.ReadStands.{best_lent}
use Rattle.router_network.proofs.network.Network.read.Goals as goal

pub returns-in-Some-2 : goal.returns-in-Some-2
returns-in-Some-2 g c =
    read_has c.args.self.now (the_view g.row.F g.F.Family g.F.Clone c.self.inside) _ (best_lent c.best-best.result.all.now c.self.inside.above (the_view g.row.F g.F.Family g.F.Clone c.self.inside) c.args.self.now c.best-best.ensures c.self.view_is) c.self.view_is c.in-Some.reader c.args.p (Some c.in-Some-2.route) c.in-Some.is (sym c.in-Some-2.is ∙ c.in_ok-route.ensures)

pub returns-in-None : goal.returns-in-None
returns-in-None g c =
    read_has c.args.self.now (the_view g.row.F g.F.Family g.F.Clone c.self.inside) _ (best_lent c.best-best.result.all.now c.self.inside.above (the_view g.row.F g.F.Family g.F.Clone c.self.inside) c.args.self.now c.best-best.ensures c.self.view_is) c.self.view_is c.in-Some.reader c.args.p None c.in-Some.is (sym c.in-None.is ∙ c.in_ok-route.ensures)

pub best-best-requires-clause-known : goal.best-best-requires-clause-known
best-best-requires-clause-known g c = (known_above _ c.self.inside.above (the_view g.row.F g.F.Family g.F.Clone c.self.inside) _ c.self.view_is c.requires.informed).knows

pub best-best-requires-clause-counted : goal.best-best-requires-clause-counted
best-best-requires-clause-counted g c = (known_above _ c.self.inside.above (the_view g.row.F g.F.Family g.F.Clone c.self.inside) _ c.self.view_is c.requires.informed).counts
