use Rattle.std.proofs.Common.{◌≡◌, length}
use Rattle.bench_rows.proofs.decisions.store_all.Given as goal

abbrev pub invariant-loop-index : goal.invariant-loop-index
invariant-loop-index l = length l.decided.all.tables.items ≡ l.branches
