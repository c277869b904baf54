use Rattle.event_text.specs.declared.event.Event.TheVariants as events
use Rattle.router_network.proofs.StepLemmas.{stepped}
use Rattle.router_network.proofs.network.Network.local.Goals as goal

pub returns : goal.returns
returns g c = stepped c.args.self.now c.declare_speaker.new.self (events.Local c.args.words) c.args.journal.now c.declare_speaker.new.journal c.flush.new.self c.in_ok-declare_speaker.ensures c.in_ok-flush.ensures.ok
