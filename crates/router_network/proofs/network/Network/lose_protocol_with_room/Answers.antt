use Rattle.router_moments.proofs.Common.{sym, subst, ◌∙◌, ap, ◌≡◌, int_rows, tree_overdue, IsTree, IsFull, Moment, with_tree, Stands, Pushes}
use Rattle.std.proofs.Common.{None, IsSome}
use Rattle.router_network.specs.contracts.network.Network.{the_view}
use Rattle.router_moments.specs.Works.{EndsProtocol}
use Rattle.router_network.proofs.ProtocolLosses.{protocol_ended}
use Rattle.router_network.proofs.network.Network.lose_protocol_with_room.Goals as goal

pub lose-requires-clause-tree : goal.lose-requires-clause-tree
lose-requires-clause-tree g c = subst (λ (m : Moment). IsTree m.tree) (sym c.self.view_is) c.requires.stands.interior.tree

pub lose-requires-clause-full : goal.lose-requires-clause-full
lose-requires-clause-full g c = subst (λ (m : Moment). IsFull m.tree) (sym c.self.view_is) c.requires.stands.interior.full

pub returns-clause-ends : goal.returns-clause-ends
returns-clause-ends g c =
    let old : Moment = the_view g.row.F g.F.Family g.F.Clone c.self.inside in
    let new : Moment = with_tree (the_view g.row.F g.F.Family g.F.Clone c.self.inside) c.lose.new.self in
    subst (λ (m : Moment). Pushes (EndsProtocol c.args.proto m new) c.args.journal.now c.lose.new.journal) c.self.view_is
    (protocol_ended c.args.proto old c.lose.new.self c.args.journal.now c.lose.new.journal (subst Stands (sym c.self.view_is) c.requires.stands)
    (subst (λ (m : Moment). tree_overdue c.args.proto m.tree ≡ None) (sym c.self.view_is) c.requires.free) (subst (λ (m : Moment). IsSome m.declared.speaker) (sym c.self.view_is) c.requires.since)
    c.in_ok-lose.ensures.after c.in_ok-lose.ensures.lines c.in_ok-lose.ensures.leads c.in_ok-lose.ensures.rows c.in_ok-lose.ensures.tree c.in_ok-lose.ensures.full)

pub returns-clause-rows : goal.returns-clause-rows
returns-clause-rows g c = c.in_ok-lose.ensures.rows ∙ ap (λ (m : Moment). int_rows m.tree) c.self.view_is
