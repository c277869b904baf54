use Rattle.router_moments.proofs.Common.{on_ok_weaker}
use Rattle.router_moments.proofs.HopLemmas.{settled_peer}
use Rattle.router_network.proofs.KnownRows.{above_but, weld_known}
use Rattle.router_network.proofs.network.Network.settle_peer.Goals as goal

pub returns-clause-settles : goal.returns-clause-settles
returns-clause-settles g c =
    on_ok_weaker c.weld.result
    (settled_peer c.args.number c.args.sent _ c.args.self.now c.resolve.new.self c.decide.new.self _ c.weld.new.self c.args.journal.now c.resolve.new.journal c.decide.new.journal c.weld.new.journal c.self.view_is c.in_ok-passed.ensures.resolves c.in_ok-passed.ensures.after
    c.in_ok-decide.ensures.decides)
    c.weld.ensures

pub decide-requires-clause-known : goal.decide-requires-clause-known
decide-requires-clause-known g c =
    above_but c.args.number c.args.sent c.in_ok-passed.passed c.args.contests.now c.args.self.now c.resolve.new.self c.in_ok-passed.ensures.resolves.0 c.requires.may.small c.requires.above c.in_ok-passed.ensures.resolves.2 c.in_ok-passed.ensures.after

pub returns-clause-known : goal.returns-clause-known
returns-clause-known g c =
    on_ok_weaker c.weld.result (λ welds. weld_known c.args.number c.decide.new.contests c.decide.new.self _ c.weld.new.self welds.0 c.self.view_is welds.2 c.in_ok-decide.ensures.known) c.weld.ensures

pub returns-clause-counts : goal.returns-clause-counts
returns-clause-counts g c = on_ok_weaker c.weld.result (λ _. c.in_ok-decide.ensures.counts) c.weld.ensures
