use Rattle.router_moments.proofs.Common.{arith}
use Rattle.router_network.proofs.StepLemmas.{idled}
use Rattle.router_network.proofs.network.Network.idle.Goals as goal

pub returns-clause-idles : goal.returns-clause-idles
returns-clause-idles g c =
    idled c.args.self.now c.drain_all.new.self c.in_ok-bound.bound c.in_ok-turns.turns c.args.journal.now c.push_line.new.self c.drain_all.new.journal c.push_line-2.new.self c.flush.new.self
    c.requires.stands c.in_ok-bound.ensures (omega arith) c.in_ok-push_line.ensures c.in_ok-turns.ensures.drained c.in_ok-push_line-2.ensures c.in_ok-flush.ensures.ok
