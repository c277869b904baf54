use Rattle.router_moments.proofs.Common.{◌≡◌, first_held}
use Rattle.router_moments.proofs.HeldLemmas.{from_phase}
use Rattle.router_network.proofs.network.Network.first_held.Given as goal

abbrev pub invariant-loop-i : goal.invariant-loop-i
invariant-loop-i g l = first_held l.self l.p ≡ from_phase l.self l.p l.i
