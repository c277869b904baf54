use Rattle.std.proofs.Common.{◌≡◌, ℕ, length}
use Rattle.link_change.specs.Rows.{no_rows}
use Rattle.bench_rows.specs.Tables.{rows_in}
use Rattle.bench_rows.proofs.decisions.Decided.new.Given as goal

abbrev pub invariant-loop : goal.invariant-loop
invariant-loop l = record {
  count : length l.tables.items ≡ l.counter;
  empty : (b : ℕ) → rows_in l.tables.items b ≡ no_rows;
}
