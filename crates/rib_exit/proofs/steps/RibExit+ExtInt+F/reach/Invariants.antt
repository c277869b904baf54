use Rattle.std.proofs.Common.{take}
use Rattle.rib_exit.proofs.ReachLemmas.{Reaching}
use Rattle.rib_exit.proofs.steps.RibExit+ExtInt+F.reach.Given as goal

abbrev pub invariant-loop-interest : goal.invariant-loop-interest
invariant-loop-interest g l = Reaching (take l.interest-index l.reached) l.fn.self l.self
