use Rattle.router_moments.proofs.Common.{refl, on_ok_weaker}
use Rattle.std.proofs.Common.{Some}
use Rattle.router_moments.proofs.BestLemmas.{decides_some}
use Rattle.router_network.specs.contracts.network.Network.{the_view}
use Rattle.router_network.proofs.AboveRows.{above_of}
use Rattle.router_network.proofs.KnownRows.{known_lent, known_then}
use Rattle.router_network.proofs.network.Network.decide_change.Goals as goal

pub take_in-requires-clause-known : goal.take_in-requires-clause-known
take_in-requires-clause-known g c =
    let is = above_of c.self.inside.above (the_view g.row.F g.F.Family g.F.Clone c.self.inside) c.args.self.now c.self.view_is in
    known_lent c.args.number c.args.contests.now c.args.contests.now c.args.self.now _ _ _ _ _ is.declared is.tree is.redist is.chains is.hops (Some c.args.change) c.args.change refl c.requires.known

pub take_in-requires-clause-there : goal.take_in-requires-clause-there
take_in-requires-clause-there g c = c.requires.known.there c.args.change refl

pub returns-clause-decides : goal.returns-clause-decides
returns-clause-decides g c =
    let is = above_of c.self.inside.above (the_view g.row.F g.F.Family g.F.Clone c.self.inside) c.args.self.now c.self.view_is in
    on_ok_weaker c.queue.result
    (decides_some c.args.number (Some c.args.change) c.args.change _ c.args.self.now c.queue.new.self _ _ _ _ _ c.args.journal.now c.queue.new.journal c.requires.small refl is.declared is.tree is.redist is.chains is.hops c.in_ok-best.ensures.decides)
    c.queue.ensures

pub returns-clause-known : goal.returns-clause-known
returns-clause-known g c =
    let is = above_of c.self.inside.above (the_view g.row.F g.F.Family g.F.Clone c.self.inside) c.args.self.now c.self.view_is in
    on_ok_weaker c.queue.result
    (λ joins. known_then c.args.number c.args.contests.now c.take_in.new.self c.args.self.now _ _ _ _ _ is.declared is.tree is.redist is.chains is.hops c.queue.new.self c.queue.new.self.exits joins.2.after c.in_ok-best.ensures.known) c.queue.ensures

pub returns-clause-counts : goal.returns-clause-counts
returns-clause-counts g c = on_ok_weaker c.queue.result (λ _. c.in_ok-best.ensures.counts) c.queue.ensures
