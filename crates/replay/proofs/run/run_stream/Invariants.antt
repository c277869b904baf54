use Rattle.std.proofs.Common.{◌≡◌, ◌≤◌, ◌-◌, ◌+◌, ◌*◌, ◌^◌, [], length}
use Rattle.router.specs.Networks.{networks_of}
use Rattle.replay.specs.Headline.{Progress}
use Rattle.replay.specs.Stream.{IsReady}
use Rattle.replay.proofs.run.run_stream.Given as goal

abbrev pub invariant-reading : goal.invariant-reading
invariant-reading g l = record {
  progress : Progress l.fn.journal.quiet (g.S.Source.left l.fn.source) (g.S.Source.left l.source) (g.K.Sink.taken l.fn.sink) (g.K.Sink.taken l.sink) l.stream.number (networks_of l.stream.router) l.stream.turns l.stream.pending.items;
  ready : IsReady l.stream.number l.stream.router;
  empty : l.journal.pending ≡ [];
  same : l.journal.quiet ≡ l.fn.journal.quiet;
  source_later : g.S.Source.faults l.fn.source ≤ g.S.Source.faults l.source;
  sink_later : g.K.Sink.faults l.fn.sink ≤ g.K.Sink.faults l.sink;
}

-- the lines that may still come, and the bytes of the one that has begun
abbrev pub decreases-reading : goal.decreases-reading
decreases-reading g l = (2 ^ 32 - l.stream.number) * 16400 + (16386 - length l.stream.pending.items)
