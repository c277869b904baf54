use Rattle.router_moments.proofs.Common.{on_ok_weaker, sym, subst, Route, Change, Adds}
use Rattle.std.proofs.Common.{Option}
use Rattle.router_moments.specs.Works.{Decides}
use Rattle.router_moments.proofs.BestLemmas.{decides_none}
use Rattle.router_moments.proofs.OwnTurns.{sends_own}
use Rattle.router_network.proofs.KnownRows.{own_none, own_some}
use Rattle.router_network.proofs.network.Network.send_own.Goals as goal

pub returns-in-None-clause-sends : goal.returns-in-None-clause-sends
returns-in-None-clause-sends g c =
    sends_own c.args.sent c.args.self.now c.args.self.now c.args.journal.now c.push_sent.new.self c.push_sent.new.self c.in_ok-push_sent.ensures (decides_none 0 c.args.sent c.args.self.now c.push_sent.new.self c.in-None.is)

pub returns-in-None-clause-informed : goal.returns-in-None-clause-informed
returns-in-None-clause-informed g c = own_none c.args.sent c.args.contests.now c.args.self.now c.in-None.is c.requires.known

pub decide_own-requires-clause-known : goal.decide_own-requires-clause-known
decide_own-requires-clause-known g c = own_some c.args.sent c.in-Some.change c.args.contests.now c.args.self.now c.in-Some.is c.requires.known

pub returns-in-Some-clause-sends : goal.returns-in-Some-clause-sends
returns-in-Some-clause-sends g c =
    on_ok_weaker c.decide_own.result
    (λ decides. sends_own c.args.sent c.args.self.now c.decide_own.new.self c.args.journal.now c.push_sent.new.self c.decide_own.new.journal c.in_ok-push_sent.ensures
    (subst (λ (s : Option (Change Route)). Adds (Decides 0 s c.args.self.now c.decide_own.new.self) c.push_sent.new.self c.decide_own.new.journal) (sym c.in-Some.is) decides))
    c.decide_own.ensures.decides
