use Rattle.std.proofs.Common.{take}
use Rattle.hop_side.specs.Steps.{AllReached}
use Rattle.hop_side.proofs.hops.NextHops.reach.Given as goal

abbrev pub invariant-loop-interest : goal.invariant-loop-interest
invariant-loop-interest g l = AllReached (take l.interest-index l.reached) l.fn.self l.self
