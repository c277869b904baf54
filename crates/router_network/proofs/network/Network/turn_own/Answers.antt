use Rattle.router_moments.proofs.Common.{sym, ◌∙◌, refl}
use Rattle.router_moments.proofs.HopTurns.{exits_sound}
use Rattle.router_moments.proofs.OwnTurns.{none_own, own_took}
use Rattle.router_network.proofs.KnownRows.{walk_known}
use Rattle.router_network.proofs.network.Network.turn_own.Goals as goal

pub returns-in_default-clause-taken : goal.returns-in_default-clause-taken
returns-in_default-clause-taken g c = none_own c.args.self.now _ c.args.journal.now c.self.view_is c.requires.stands (sym c.speaker.ensures ∙ c.in_default.is)

pub send_own-requires-clause-exits : goal.send_own-requires-clause-exits
send_own-requires-clause-exits g c = exits_sound c.args.self.now _ c.self.view_is c.requires.stands

pub returns-clause-taken : goal.returns-clause-taken
returns-clause-taken g c =
    own_took c.in-Some.me c.args.self.now _ _ c.send_own.new.self c.unit.new.self c.args.journal.now c.send_own.new.journal c.flush.new.self c.in_ok-turn.turn _ c.in_default-turn.not-Nothing c.self.view_is
    (sym c.speaker.ensures ∙ c.in-Some.is) c.in_ok-turn.ensures.taken c.sent_of.ensures refl c.in_ok-send_own.ensures.sends c.in_ok-flush.ensures.ok

pub send_own-requires-clause-known : goal.send_own-requires-clause-known
send_own-requires-clause-known g c =
    walk_known c.in-Some.me c.args.contests.now c.args.self.now _ c.unit.new.self c.in_ok-turn.turn c.sent_of.result c.in_default-turn.not-Nothing c.self.view_is (sym c.speaker.ensures ∙ c.in-Some.is) c.in_ok-turn.ensures.taken c.sent_of.ensures c.requires.informed

pub returns-clause-informed : goal.returns-clause-informed
returns-clause-informed g c = c.in_ok-send_own.ensures.informed
