use Rattle.router_moments.proofs.Common.{◌∙◌, ap, on_ok_weaker, tree_overdue, Moment}
use Rattle.router_network.proofs.RouteRoom.{protocol_room_drained, protocol_room_there}
use Rattle.router_network.proofs.network.Network.make_protocol_room.Goals as goal

pub returns-in_ok-drain_task-in-Some-clause-makes : goal.returns-in_ok-drain_task-in-Some-clause-makes
returns-in_ok-drain_task-in-Some-clause-makes g c =
    protocol_room_drained c.args.proto c.args.self.now c.drain_task.new.self c.in-Some.task c.in_ok-drain_task-in-Some.field-0 c.args.journal.now c.drain_task.new.journal c.requires.stands
    (c.in-Some.ensures ∙ ap (λ (m : Moment). tree_overdue c.args.proto m.tree) c.self.view_is) c.in_ok-drain_task-in-Some.ensures.drained

pub returns-in-None-clause-makes : goal.returns-in-None-clause-makes
returns-in-None-clause-makes g c =
    on_ok_weaker c.flush.result
    (protocol_room_there c.args.proto c.args.self.now c.args.journal.now c.flush.new.self c.requires.stands (c.in-None.ensures ∙ ap (λ (m : Moment). tree_overdue c.args.proto m.tree) c.self.view_is))
    c.flush.ensures.ok
