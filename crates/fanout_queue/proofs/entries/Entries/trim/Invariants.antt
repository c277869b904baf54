use Rattle.std.proofs.Common.{◌≡◌, ℕ, ◌<◌, ◌≤◌, length}
use Rattle.fanout_queue.specs.Entries.{readers_at, Drops}
use Rattle.fanout_queue.proofs.entries.Entries.trim.Given as goal

abbrev pub invariant-first : goal.invariant-first
invariant-first g l = record {
  drops : Drops l.initial.self l.self;
  unneeded : (n : ℕ) → l.initial.self.first ≤ n → n < l.self.first → readers_at l.initial.self n ≡ 0;
}

abbrev pub decreases-first : goal.decreases-first
decreases-first g l = length l.self.changes
