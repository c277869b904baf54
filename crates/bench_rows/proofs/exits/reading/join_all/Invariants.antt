use Rattle.bench_rows.specs.Live.{AreLive}
use Rattle.bench_rows.proofs.exits.reading.join_all.Given as goal

abbrev pub invariant-loop : goal.invariant-loop
invariant-loop l = AreLive l.queue l.readers.items
