use Rattle.router_moments.proofs.Common.{on_ok_weaker}
use Rattle.router_network.specs.contracts.network.Network.{the_view}
use Rattle.router_moments.proofs.HopTurns.{exits_sound}
use Rattle.router_moments.proofs.StandLemmas.{chain_is_there}
use Rattle.router_network.proofs.LossLemmas.{lost_all, silenced_stands, room_silent}
use Rattle.router_network.proofs.ChainShifts.{ends_informed}
use Rattle.router_network.proofs.KnownRows.{exits_informed}
use Rattle.router_network.proofs.network.Network.lose.Goals as goal

pub end-requires-clause-sound : goal.end-requires-clause-sound
end-requires-clause-sound g c = exits_sound c.args.self.now _ c.self.view_is c.requires.stands

pub make_room-requires-clause-stands : goal.make_room-requires-clause-stands
make_room-requires-clause-stands g c = silenced_stands c.args.number c.args.self.now (the_view g.row.F g.F.Family g.F.Clone c.self.inside) c.end.new.self c.in_ok-end.ensures.0 c.self.view_is c.requires.stands c.in_ok-end.ensures.2

pub make_room-requires-clause-there : goal.make_room-requires-clause-there
make_room-requires-clause-there g c = chain_is_there c.args.self.now (the_view g.row.F g.F.Family g.F.Clone c.self.inside) c.self.view_is c.requires.stands c.args.number c.requires.up.0 c.requires.up.1

pub lose_with_room-requires-clause-silent : goal.lose_with_room-requires-clause-silent
lose_with_room-requires-clause-silent g c =
    room_silent c.args.number (the_view g.row.F g.F.Family g.F.Clone c.self.inside) c.make_room.new.self c.end.new.self c.in_ok-end.ensures.0 c.end.new.journal c.make_room.new.journal c.in_ok-end.ensures.2 c.in_ok-make_room.ensures.makes

pub returns-clause-loses : goal.returns-clause-loses
returns-clause-loses g c =
    on_ok_weaker c.flush.result
    (lost_all c.args.number c.args.session c.args.self.now (the_view g.row.F g.F.Family g.F.Clone c.self.inside) c.make_room.new.self c.lose_with_room.new.self c.end.new.self c.args.journal.now c.end.new.journal c.make_room.new.journal c.lose_with_room.new.journal c.flush.new.self
    c.self.view_is c.requires.stands c.in_ok-end.ensures c.in_ok-make_room.ensures.makes c.in_ok-lose_with_room.ensures)
    c.flush.ensures.ok

pub make_room-requires-clause-informed : goal.make_room-requires-clause-informed
make_room-requires-clause-informed g c = exits_informed c.args.contests.now c.args.self.now _ c.end.new.self c.self.view_is c.requires.informed

pub returns-clause-informed : goal.returns-clause-informed
returns-clause-informed g c =
    on_ok_weaker c.flush.result
    (λ _. ends_informed c.args.number c.args.session c.make_room.new.contests c.make_room.new.self c.lose_with_room.new.self c.in_ok-lose_with_room.ensures.0 c.in_ok-lose_with_room.ensures.2 c.in_ok-make_room.ensures.informed)
    c.flush.ensures.ok
