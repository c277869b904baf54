use Rattle.std.proofs.Common.{◌≡◌, ◌≤◌, ◌++◌, List, ℕ, length}
use Rattle.std.specs.Io.KnownBytes.{Appends}
use Rattle.check_run.proofs.writing.write_text.Given as goal

abbrev pub invariant-writing : goal.invariant-writing
invariant-writing g l = record {
  done : (written : List ℕ) × (l.journal.text ≡ written ++ l.text) × Appends (g.K.Sink.taken l.fn.sink) (g.K.Sink.taken l.sink) written;
  later : g.K.Sink.faults l.fn.sink ≤ g.K.Sink.faults l.sink;
}

abbrev pub decreases-writing : goal.decreases-writing
decreases-writing g l = length l.text
