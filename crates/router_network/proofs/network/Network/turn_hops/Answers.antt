use Rattle.router_moments.proofs.Common.{sym, ◌∙◌, ap, refl, option_copied}
use Rattle.router_moments.proofs.HopTurns.{hops_sound, hops_agree, exits_sound, hop_took, hop_small, no_hops}
use Rattle.router_network.proofs.KnownRows.{hop_known, hop_informed}
use Rattle.router_network.proofs.network.Network.turn_hops.Goals as goal

pub returns-in_default-clause-taken : goal.returns-in_default-clause-taken
returns-in_default-clause-taken g c = no_hops c.args.number c.args.self.now _ c.args.journal.now c.self.view_is c.requires.stands (sym (ap option_copied c.in_default.is) ∙ c.chain.ensures)

pub turn-requires-clause-sound : goal.turn-requires-clause-sound
turn-requires-clause-sound g c = hops_sound c.args.self.now _ c.self.view_is c.requires.stands

pub turn-requires-clause-agree : goal.turn-requires-clause-agree
turn-requires-clause-agree g c = hops_agree c.args.self.now _ c.self.view_is c.requires.stands

pub decide-requires-clause-exits : goal.decide-requires-clause-exits
decide-requires-clause-exits g c = exits_sound c.args.self.now _ c.self.view_is c.requires.stands

pub decide-requires-clause-small : goal.decide-requires-clause-small
decide-requires-clause-small g c = hop_small c.args.number c.args.self.now _ c.in-Some.chain.now c.self.view_is c.requires.stands (sym (ap option_copied c.in-Some.is) ∙ c.chain.ensures)

pub returns-clause-taken : goal.returns-clause-taken
returns-clause-taken g c =
    hop_took c.args.number c.args.self.now _ _ c.decide.new.self c.in-Some.chain.now c.turn.new.register c.turn.new.self c.args.journal.now c.turn.new.journal c.decide.new.journal c.flush.new.self c.in_ok-turn.turn _ c.in_default-turn.not-Nothing c.self.view_is
    (sym (ap option_copied c.in-Some.is) ∙ c.chain.ensures) c.in_ok-turn.ensures.taken c.sent_of.ensures refl c.in_ok-decide.ensures.decides c.in_ok-flush.ensures.ok

pub decide-requires-clause-known : goal.decide-requires-clause-known
decide-requires-clause-known g c =
    hop_known c.args.number c.in-Some.chain.now c.args.contests.now c.args.self.now _ c.turn.new.register c.turn.new.self c.args.journal.now c.turn.new.journal c.in_ok-turn.turn c.sent_of.result c.in_default-turn.not-Nothing c.self.view_is c.requires.stands
    (sym (sym (ap option_copied c.in-Some.is) ∙ c.chain.ensures)) c.in_ok-turn.ensures.taken c.sent_of.ensures c.requires.informed

pub returns-clause-informed : goal.returns-clause-informed
returns-clause-informed g c = hop_informed c.args.contests.now c.decide.new.contests c.args.self.now _ c.turn.new.register c.turn.new.self c.decide.new.self c.decide.new.self.exits c.self.view_is c.in_ok-decide.ensures.decides.2.after c.requires.informed c.in_ok-decide.ensures.counts c.in_ok-decide.ensures.known
