use Rattle.std.proofs.Common.{◌≡◌, length}
use Rattle.bench_rows.specs.Tables.{rows_in, Informed}
use Rattle.bench_rows.proofs.decisions.decide_all.Given as goal

abbrev pub invariant-loop-index : goal.invariant-loop-index
invariant-loop-index l = record {
  there : length l.decided.all.tables.items ≡ l.branches;
  informed : Informed l.decided.contests (rows_in l.decided.all.tables.items);
}
