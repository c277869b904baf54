use Rattle.router_moments.proofs.Common.{refl, HasStepped}
use Rattle.std.proofs.Common.{[]}
use Rattle.event_text.specs.declared.event.Event.TheVariants as events
use Rattle.router_moments.proofs.KeepLemmas.{gives_none, steps_said}
use Rattle.router_network.proofs.network.Network.nothing.Goals as goal

pub returns : goal.returns
returns g c =
    gives_none (HasStepped c.args.self.now events.Nothing 0 c.args.self.now) c.args.journal.now c.flush.new.self
    (steps_said c.args.self.now events.Nothing 0 [] c.requires (refl, refl, refl) refl (refl, tt)) c.in_ok-flush.ensures.ok
