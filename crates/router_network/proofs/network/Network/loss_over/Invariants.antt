use Rattle.router_moments.proofs.HeldLemmas.{AreUpTo}
use Rattle.router_network.proofs.network.Network.loss_over.Given as goal

abbrev pub invariant-loop-number : goal.invariant-loop-number
invariant-loop-number g l = AreUpTo l.self l.p l.room l.count l.number
