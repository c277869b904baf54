-- The readers of a queue.
use Rattle.std.specs.Prelude.{ℕ, ◌<◌, List, length, slice_index, IsSome}
use Rattle.std.specs.FinMap as map
use Rattle.fanout_queue.specs.Queues.{Queued}

-- each of these numbers is that of a live reader
abbrev pub AreLive : {R : Type 0} → Queued R → List ℕ → Type 0
AreLive queued readers = (k : ℕ) → k < length readers → IsSome (map.get queued (slice_index readers k))
