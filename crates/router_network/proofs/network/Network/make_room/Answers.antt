use Rattle.router_moments.proofs.Common.{on_ok_weaker}
use Rattle.router_network.proofs.RoomLemmas.{room_drained, room_there}
use Rattle.router_network.proofs.network.Network.make_room.Goals as goal

pub returns-in_ok-drain_task-in-Some-clause-makes : goal.returns-in_ok-drain_task-in-Some-clause-makes
returns-in_ok-drain_task-in-Some-clause-makes g c =
    room_drained c.args.number c.args.self.now _ c.drain_task.new.self c.in-Some.task c.in_ok-drain_task-in-Some.field-0 c.args.journal.now c.drain_task.new.journal c.self.view_is
    c.requires.stands c.in-Some.ensures c.in_ok-drain_task-in-Some.ensures.drained

pub returns-in-None-clause-makes : goal.returns-in-None-clause-makes
returns-in-None-clause-makes g c =
    on_ok_weaker c.flush.result (room_there c.args.number c.args.self.now _ c.args.journal.now c.flush.new.self c.self.view_is c.requires.stands c.requires.there c.in-None.ensures) c.flush.ensures.ok
