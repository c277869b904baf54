use Rattle.bench_rows.specs.Live.{AreLive}
use Rattle.bench_rows.proofs.exits.reading.feed.Given as goal

abbrev pub invariant-loop-step : goal.invariant-loop-step
invariant-loop-step l = AreLive l.queue l.readers

abbrev pub invariant-loop : goal.invariant-loop
invariant-loop l = AreLive l.queue l.readers
