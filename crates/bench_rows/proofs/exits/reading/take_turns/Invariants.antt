use Rattle.std.proofs.Common.{◌≡◌, length}
use Rattle.bench_rows.specs.Live.{AreLive}
use Rattle.bench_rows.proofs.exits.reading.take_turns.Given as goal

abbrev pub invariant-loop-index : goal.invariant-loop-index
invariant-loop-index l = record { same : l.readers ≡ l.fn.readers; end : l.index-end ≡ length l.readers; live : AreLive l.queue l.readers }
