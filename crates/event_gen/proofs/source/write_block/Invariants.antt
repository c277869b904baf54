use Rattle.std.proofs.Common.{◌≡◌, ◌++◌, ◌-◌, length}
use Rattle.event_gen.proofs.source.write_block.Given as goal

abbrev pub invariant-lines : goal.invariant-lines
invariant-lines l = l.out.items ++ l.generator ≡ l.fn.out.items ++ l.fn.generator

abbrev pub decreases-lines : goal.decreases-lines
decreases-lines l = 16384 - length l.out.items
