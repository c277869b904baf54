use Rattle.std.proofs.Common.{◌≡◌, ◌-◌, length, drop}
use Rattle.fanout_queue.specs.Entries.{changes_of, first_before}
use Rattle.fanout_queue.proofs.lookups.first_among.Given as goal

abbrev pub invariant-entries : goal.invariant-entries
invariant-entries g l = first_before l.prefix (drop l.at (changes_of l.kept.items)) ≡ first_before l.prefix (drop l.from (changes_of l.kept.items))

abbrev pub decreases-entries : goal.decreases-entries
decreases-entries g l = length l.kept.items - l.at
