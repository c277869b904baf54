use Rattle.router_moments.proofs.Common.{key_of}
use Rattle.router_network.specs.contracts.network.Network.{the_view}
use Rattle.router_network.proofs.ReadLemmas.{read_next}
use Rattle.router_network.proofs.AboveRows.{known_above}
use Rattle.router_network.proofs.ReadStands.{best_lent}
use Rattle.router_network.proofs.network.Network.next_read.Goals as goal

pub returns : goal.returns
returns g c =
    read_next c.args.self.now (the_view g.row.F g.F.Family g.F.Clone c.self.inside) _ (best_lent c.best-best.result.all.now c.self.inside.above (the_view g.row.F g.F.Family g.F.Clone c.self.inside) c.args.self.now c.best-best.ensures c.self.view_is) c.self.view_is c.in-Some.reader (key_of c.args.after) c.next_read.result _ c.in-Some.is
    c.next_read.ensures.next c.next_read.ensures.covers

pub best-best-requires-clause-known : goal.best-best-requires-clause-known
best-best-requires-clause-known g c = (known_above _ c.self.inside.above (the_view g.row.F g.F.Family g.F.Clone c.self.inside) _ c.self.view_is c.requires.informed).knows

pub best-best-requires-clause-counted : goal.best-best-requires-clause-counted
best-best-requires-clause-counted g c = (known_above _ c.self.inside.above (the_view g.row.F g.F.Family g.F.Clone c.self.inside) _ c.self.view_is c.requires.informed).counts
