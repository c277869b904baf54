use Rattle.router_moments.proofs.Common.{sym, subst, ◌≡◌, on_ok_weaker, Interior, way_of_route, fed_tree, IsTree, IsFull, Moment, Pushes}
use Rattle.std.proofs.Common.{Option, IsSome}
use Rattle.router_moments.specs.Works.{SetsRoute}
use Rattle.router_moments.proofs.StandLemmas.{may_follow}
use Rattle.router_moments.proofs.RouteLemmas.{route_fell}
use Rattle.router_network.proofs.KnownRows.{tree_over}
use Rattle.router_network.proofs.network.Network.route.Goals as goal
use Rattle.router_network.specs.contracts.network.Network.{the_view}

pub feed-requires-clause-tree : goal.feed-requires-clause-tree
feed-requires-clause-tree g c = subst (λ (m : Moment). IsTree m.tree) (sym c.self.view_is) c.requires.stands.interior.tree

pub feed-requires-clause-full : goal.feed-requires-clause-full
feed-requires-clause-full g c = subst (λ (m : Moment). IsFull m.tree) (sym c.self.view_is) c.requires.stands.interior.full

pub feed-requires-in-Some-clause-tree : goal.feed-requires-in-Some-clause-tree
feed-requires-in-Some-clause-tree g c = subst (λ (m : Moment). IsTree m.tree) (sym c.self-in-Some.view_is) c.requires.stands.interior.tree

pub feed-requires-in-Some-clause-full : goal.feed-requires-in-Some-clause-full
feed-requires-in-Some-clause-full g c = subst (λ (m : Moment). IsFull m.tree) (sym c.self-in-Some.view_is) c.requires.stands.interior.full

pub settle-requires-clause-follow : goal.settle-requires-clause-follow
settle-requires-clause-follow g c = may_follow c.args.self.now _ c.feed.new.self c.self.view_is c.requires.stands (subst (λ (m : Moment). IsSome m.declared.speaker) (sym c.self.view_is) c.requires.since)

pub settle-requires-in-Some-clause-follow : goal.settle-requires-in-Some-clause-follow
settle-requires-in-Some-clause-follow g c =
    may_follow c.args.self.now _ c.feed-in-Some.new.self c.self-in-Some.view_is c.requires.stands (subst (λ (m : Moment). IsSome m.declared.speaker) (sym c.self-in-Some.view_is) c.requires.since)

pub returns-in_ok-sent-in-None-clause-sets : goal.returns-in_ok-sent-in-None-clause-sets
returns-in_ok-sent-in-None-clause-sets g c =
    let old : Moment = the_view g.row.F g.F.Family g.F.Clone c.self.inside in
    on_ok_weaker c.settle.result (λ settled. subst (λ (m : Moment). Pushes (λ said. SetsRoute m c.args.proto c.args.p c.args.new said c.settle.new.self) c.args.journal.now c.settle.new.journal) c.self.view_is
    (route_fell old (fed_tree old.tree c.args.proto c.args.p c.args.new) c.args.proto c.args.p (way_of_route c.args.proto old.tree) c.in_ok-sent-in-None.sent c.feed.new.self c.settle.new.self c.args.journal.now c.feed.new.journal c.settle.new.journal
    (subst (λ (row : Option Interior). c.feed.new.self ≡ fed_tree old.tree c.args.proto c.args.p row) (sym c.in-None.is) c.in_ok-sent-in-None.ensures.after) c.in_ok-sent-in-None.ensures.sent c.in_ok-sent-in-None.ensures.lines settled))
    c.settle.ensures.settles

pub returns-in_ok-sent-in-Some-clause-sets : goal.returns-in_ok-sent-in-Some-clause-sets
returns-in_ok-sent-in-Some-clause-sets g c =
    let old : Moment = the_view g.row.F g.F.Family g.F.Clone c.self-in-Some.inside in
    on_ok_weaker c.settle-in-Some.result (λ settled. subst (λ (m : Moment). Pushes (λ said. SetsRoute m c.args.proto c.args.p c.args.new said c.settle-in-Some.new.self) c.args.journal.now c.settle-in-Some.new.journal) c.self-in-Some.view_is
    (route_fell old (fed_tree old.tree c.args.proto c.args.p c.args.new) c.args.proto c.args.p (way_of_route c.args.proto old.tree) c.in_ok-sent-in-Some.sent c.feed-in-Some.new.self c.settle-in-Some.new.self c.args.journal.now c.feed-in-Some.new.journal c.settle-in-Some.new.journal
    (subst (λ (row : Option Interior). c.feed-in-Some.new.self ≡ fed_tree old.tree c.args.proto c.args.p row) (sym c.in-Some.is) c.in_ok-sent-in-Some.ensures.after) c.in_ok-sent-in-Some.ensures.sent c.in_ok-sent-in-Some.ensures.lines settled))
    c.settle-in-Some.ensures.settles

pub settle-requires-clause-informed : goal.settle-requires-clause-informed
settle-requires-clause-informed g c = tree_over c.in_ok-sent-in-None.sent c.args.contests.now c.args.self.now _ c.feed.new.self c.args.p c.self.view_is c.requires.stands c.in_ok-sent-in-None.ensures.sent c.requires.informed

pub settle-requires-in-Some-clause-informed : goal.settle-requires-in-Some-clause-informed
settle-requires-in-Some-clause-informed g c = tree_over c.in_ok-sent-in-Some.sent c.args.contests.now c.args.self.now _ c.feed-in-Some.new.self c.args.p c.self-in-Some.view_is c.requires.stands c.in_ok-sent-in-Some.ensures.sent c.requires.informed
