use Rattle.router_moments.proofs.Common.{on_ok_weaker}
use Rattle.router_moments.proofs.BestLemmas.{joins_none, joins_some}
use Rattle.router_network.proofs.network.Network.queue.Goals as goal

pub returns-in-None : goal.returns-in-None
returns-in-None g c = joins_none c.args.sent c.args.self.now c.args.journal.now c.in-None.is

pub returns-in_ok-push_change-in-Some : goal.returns-in_ok-push_change-in-Some
returns-in_ok-push_change-in-Some g c =
    on_ok_weaker c.put.result
    (joins_some c.args.sent c.in-Some.change c.args.self.now _ c.put.new.self c.args.journal.now c.push_change.new.self c.self.view_is c.in-Some.is c.in_ok-push_change-in-Some.ensures)
    c.put.ensures.put
