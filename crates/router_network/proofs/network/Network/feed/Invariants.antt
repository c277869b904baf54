use Rattle.router_moments.proofs.Common.{take, Pushes, HaveFed}
use Rattle.router_network.specs.Informed.{Informed}
use Rattle.router_network.proofs.network.Network.feed.Given as goal

abbrev pub invariant-loop-change : goal.invariant-loop-change
invariant-loop-change g l = record {
  feeds : Pushes (HaveFed l.number (take l.change-index l.changes) l.fn.self l.self) l.fn.journal l.journal;
  informed : Informed l.contests l.self;
}
