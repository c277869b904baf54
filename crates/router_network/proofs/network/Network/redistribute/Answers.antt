use Rattle.router_moments.proofs.Common.{refl, sym, ◌∙◌}
use Rattle.router_moments.proofs.OwnTurns.{own_followed}
use Rattle.router_network.proofs.KnownRows.{over_own}
use Rattle.router_network.proofs.network.Network.redistribute.Goals as goal

pub returns-clause-redistributes : goal.returns-clause-redistributes
returns-clause-redistributes g c =
    own_followed c.send_own.result c.in-Some.me c.args.change.now c.args.change.now c.args.self.now _ c.send_own.new.self c.take_in.new.self c.in_ok-sent.sent c.args.journal.now c.send_own.new.journal c.self.view_is
    (sym c.speaker.ensures ∙ c.in-Some.is) refl c.in_ok-sent.ensures.sent c.in_ok-sent.ensures.same c.send_own.ensures.sends

pub send_own-requires-clause-known : goal.send_own-requires-clause-known
send_own-requires-clause-known g c =
    over_own c.in-Some.me c.args.change.now c.args.change.now c.in_ok-sent.sent c.args.contests.now c.args.self.now _ c.take_in.new.self c.self.view_is (sym c.speaker.ensures ∙ c.in-Some.is) refl c.in_ok-sent.ensures.sent c.in_ok-sent.ensures.same c.requires.known

pub returns-clause-informed : goal.returns-clause-informed
returns-clause-informed g c = c.send_own.ensures.informed
