use Rattle.std.proofs.Common.{◌≤◌, length, drop}
use Rattle.addr4.specs.Places.{key_of}
use Rattle.fanout_queue.specs.Entries.{changes_of, IsNextBeside}
use Rattle.fanout_queue.proofs.lookups.least_among.Given as goal

abbrev pub invariant-entries : goal.invariant-entries
invariant-entries g l = record {
  beside : IsNextBeside (drop l.at (changes_of l.kept.items)) (key_of l.after) l.fn.other l.least;
  from : l.from ≤ l.at;
  within : l.at ≤ length l.kept.items;
}

abbrev pub decreases-entries : goal.decreases-entries
decreases-entries g l = l.at
