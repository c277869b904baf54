use Rattle.router_network.proofs.LocalLemmas.{HaveBegun}
use Rattle.router_network.proofs.peers.begin_all.Given as goal

abbrev pub invariant-loop-link : goal.invariant-loop-link
invariant-loop-link g l = HaveBegun l.links l.link-index l.fn.journal l.journal
