use Rattle.event_text.specs.declared.event.Event.TheVariants as events
use Rattle.router_network.proofs.StepLemmas.{stepped}
use Rattle.router_network.proofs.network.Network.up.Goals as goal

pub returns : goal.returns
returns g c = stepped c.args.self.now c.begin_session.new.self (events.Up c.args.number) c.args.journal.now c.begin_session.new.journal c.flush.new.self c.in_ok-begin_session.ensures c.in_ok-flush.ensures.ok
