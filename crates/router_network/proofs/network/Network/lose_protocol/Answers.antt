use Rattle.router_moments.proofs.Common.{sym, subst, ap, Lose, speaker_since, LiveState}
use Rattle.std.proofs.Common.{IsSome}
use Rattle.router_network.proofs.ProtocolLosses.{protocol_lost}
use Rattle.router_network.proofs.KnownRows.{protocol_informed}
use Rattle.router_network.proofs.network.Network.lose_protocol.Goals as goal
use Rattle.router_moments.proofs.CoreLemmas.{worked_numbered}

pub lose_protocol_with_room-requires-clause-few : goal.lose_protocol_with_room-requires-clause-few
lose_protocol_with_room-requires-clause-few g c = worked_numbered c.args.self.now c.make_protocol_room.new.self c.in_ok-make_protocol_room.ensures.makes.0 4294967294 c.in_ok-make_protocol_room.ensures.makes.2.keeps c.requires.few

pub lose_protocol_with_room-requires-clause-since : goal.lose_protocol_with_room-requires-clause-since
lose_protocol_with_room-requires-clause-since g c =
    subst IsSome (sym (ap (λ (l : LiveState). l.declared.speaker) c.in_ok-make_protocol_room.ensures.makes.2.keeps.live)) (speaker_since c.args.self.now.declared (Lose c.args.proto) (λ e. cc) c.requires.admitted)

pub returns-clause-steps : goal.returns-clause-steps
returns-clause-steps g c =
    protocol_lost c.args.proto c.args.self.now c.make_protocol_room.new.self c.lose_protocol_with_room.new.self c.args.journal.now c.make_protocol_room.new.journal
    c.lose_protocol_with_room.new.journal c.flush.new.self c.in_ok-make_protocol_room.ensures.makes c.in_ok-lose_protocol_with_room.ensures.ends c.in_ok-flush.ensures.ok

pub returns-clause-informed : goal.returns-clause-informed
returns-clause-informed g c = protocol_informed c.args.proto c.make_protocol_room.new.contests c.make_protocol_room.new.self c.lose_protocol_with_room.new.self c.in_ok-lose_protocol_with_room.ensures.ends.0 c.in_ok-lose_protocol_with_room.ensures.ends.2 c.in_ok-lose_protocol_with_room.ensures.rows c.in_ok-make_protocol_room.ensures.informed
