use Rattle.std.proofs.Common.{ℕ, ◌<◌}
use Rattle.addr4.specs.Blocks.{width}
use Rattle.addr4.specs.Prefixes.{ComesBefore, block}
use Rattle.rib_tree.proofs.OverLemmas.{NonePassed, NoneUpto}
use Rattle.rib_tree.proofs.held.is_over.Given as goal

abbrev pub invariant-loop-bits : goal.invariant-loop-bits
invariant-loop-bits g l = record {
  passed : NonePassed l.deletion.rows l.address l.bits;
  upto : NoneUpto l.deletion.rows l.address l.next;
  further : (n : ℕ) → n < l.bits → ComesBefore (block width l.address n) l.next;
}
