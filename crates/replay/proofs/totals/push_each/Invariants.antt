use Rattle.std.proofs.Common.{take}
use Rattle.replay.specs.Totals.{Adds, AreTotalsOf}
use Rattle.replay.proofs.totals.push_each.Given as goal

abbrev pub invariant-counting : goal.invariant-counting
invariant-counting l = Adds (AreTotalsOf l.core.moment (take l.link-index l.links)) l.fn.out.items l.out.items
