use Rattle.event_text.specs.declared.event.Event.TheVariants as events
use Rattle.router_network.proofs.StepLemmas.{stepped}
use Rattle.router_network.proofs.network.Network.peer.Goals as goal

pub returns : goal.returns
returns g c = stepped c.args.self.now c.declare_peer.new.self (events.Peer c.args.number c.args.words c.args.client) c.args.journal.now c.declare_peer.new.journal c.flush.new.self c.in_ok-declare_peer.ensures c.in_ok-flush.ensures.ok
