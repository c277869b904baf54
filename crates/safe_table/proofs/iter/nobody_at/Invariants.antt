use Rattle.std.proofs.Common.{◌≡◌, ◌<◌, ℕ, false}
use Rattle.slab.specs.Slab.{get}
use Rattle.safe_table.specs.Fields.{stands_at}
use Rattle.safe_table.proofs.iter.nobody_at.Given as goal

abbrev pub invariant-loop-id : goal.invariant-loop-id
invariant-loop-id g l = (k : ℕ) → k < l.id → stands_at l.prefix (get l.places k) ≡ false
