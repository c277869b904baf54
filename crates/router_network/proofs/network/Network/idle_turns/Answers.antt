use Rattle.router_network.proofs.StepLemmas.{idle_stepped}
use Rattle.router_network.proofs.network.Network.idle_turns.Goals as goal

pub returns-clause-steps : goal.returns-clause-steps
returns-clause-steps g c = idle_stepped c.args.self.now c.idle.new.self c.in_ok-idle.idle c.args.journal.now c.idle.new.journal c.in_ok-idle.ensures.idles
