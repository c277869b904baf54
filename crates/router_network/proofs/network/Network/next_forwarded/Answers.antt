use Rattle.router_moments.proofs.Common.{subst, ◌∙◌, ap, key_of, Moment, int_rows}
use Rattle.rib_exit.specs.Exits.{exit_links as external_links}
use Rattle.router_moments.specs.Lookups.{IsNextPlace}
use Rattle.router_network.specs.contracts.network.Network.{the_view}
use Rattle.router_network.proofs.AboveRows.{known_above}
use Rattle.router_network.proofs.ReadStands.{best_lent, parts_stand}
use Rattle.router_network.proofs.network.Network.next_forwarded.Goals as goal

pub best-best-requires-clause-known : goal.best-best-requires-clause-known
best-best-requires-clause-known g c = (known_above _ c.self.inside.above (the_view g.row.F g.F.Family g.F.Clone c.self.inside) _ c.self.view_is c.requires.informed).knows

pub best-best-requires-clause-counted : goal.best-best-requires-clause-counted
best-best-requires-clause-counted g c = (known_above _ c.self.inside.above (the_view g.row.F g.F.Family g.F.Clone c.self.inside) _ c.self.view_is c.requires.informed).counts

pub next_candidate-requires-clause-stands : goal.next_candidate-requires-clause-stands
next_candidate-requires-clause-stands g c = parts_stand c.read_routes-read.result.exits.now _ _ c.args.self.now (best_lent c.read_routes-read.result.best.now.all.now c.self.inside.above (the_view g.row.F g.F.Family g.F.Clone c.self.inside) c.args.self.now (ap (λ (b : _). b.all.now) c.read_routes-read.ensures.best ∙ c.best-best.ensures) c.self.view_is) c.read_routes-read.ensures.exits c.read_routes-read.ensures.reader (the_view g.row.F g.F.Family g.F.Clone c.self.inside) c.self.view_is c.requires.readers

pub returns : goal.returns
returns g c = subst (λ (n : Moment). IsNextPlace (external_links n.rib (int_rows n.tree) c.args.link) (key_of c.args.after) c.next_candidate.result) c.self.view_is (_, c.next_candidate.ensures.next, c.next_candidate.ensures.covers)
