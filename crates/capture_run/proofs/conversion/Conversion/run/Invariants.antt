use Rattle.std.proofs.Common.{◌-◌, ◌≤◌}
use Rattle.capture_run.specs.Progress.{Progress}
use Rattle.capture_run.proofs.conversion.Conversion.run.Given as goal

abbrev pub invariant-records : goal.invariant-records
invariant-records g l = record {
  progress : Progress l.fn.self.reader.as4 (g.S.Source.left l.fn.source) (g.S.Source.left l.source) (g.K.Sink.taken l.fn.sink) (g.K.Sink.taken l.sink) l.self.reader l.self.unwritten.items;
  reads : g.S.Source.faults l.fn.source ≤ g.S.Source.faults l.source;
  writes : g.K.Sink.faults l.fn.sink ≤ g.K.Sink.faults l.sink;
}

-- the records that a file may still have
abbrev pub decreases-records : goal.decreases-records
decreases-records g l = 1000000000 - l.self.reader.number
