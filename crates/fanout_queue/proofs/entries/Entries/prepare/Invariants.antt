use Rattle.std.proofs.Common.{◌≡◌, ◌-◌}
use Rattle.fanout_queue.specs.Entries.{unindexed, Indexes}
use Rattle.fanout_queue.proofs.entries.Entries.prepare.Given as goal

abbrev pub invariant-loop-number : goal.invariant-loop-number
invariant-loop-number g l = record {
  same : Indexes l.fn.self l.self;
  left : unindexed l.self ≡ l.number-end - l.number;
}
