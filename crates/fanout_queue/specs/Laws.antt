-- Laws of queues, for the crates above.
use Rattle.std.specs.Prelude.{◌≡◌, ◌≢◌, ℕ, [], Option, Some, IsSome}
use Rattle.std.specs.FinMap as map
use Rattle.addr4.specs.Prefixes.{AddressPrefix}
use Rattle.link_change.specs.Rows.{Rows}
use Rattle.link_change.specs.Changes.{IsSent}
use Rattle.link_change.specs.Changes.{Change}
use Rattle.fanout_queue.specs.Queues.{Queued, AppendsToAll, Takes, AllLead, KeepsReaders}
use Rattle.fanout_queue.specs.Readers.{read_rows, ReaderLeads, KeepsOtherReaders}

-- ---- what is unread leads to the best rows
-- What every reader hasn't taken goes on to lead from the rows that it has to the best ones: when a change of these is put,
abbrev pub PutKeepsLeading : Type 0 → Type 0
PutKeepsLeading R =
    (old new : Queued R) (best now : Rows R) (p : AddressPrefix) (c : Change R) → AppendsToAll c old new → IsSent best now p (Some c)
    → AllLead old best → AllLead new now

-- when one reader takes a change,
abbrev pub TakeKeepsLeading : Type 0 → Type 0
TakeKeepsLeading R =
    (old new : Queued R) (best : Rows R) (reader : ℕ) (result : Option (Change R)) → Takes old new reader result
    → AllLead old best → AllLead new best

-- when one joins, and when one leaves.
abbrev pub JoinKeepsLeading : Type 0 → Type 0
JoinKeepsLeading R =
    (queued : Queued R) (best : Rows R) (reader : ℕ) → AllLead queued best → AllLead (map.insert queued reader []) best

abbrev pub DropKeepsLeading : Type 0 → Type 0
DropKeepsLeading R =
    (queued : Queued R) (best : Rows R) (reader : ℕ) → AllLead queued best → AllLead (map.remove queued reader) best

-- ---- readers stay
-- Whatever is put, taken or joined, each live reader stays live,
abbrev pub PutKeepsReaders : Type 0 → Type 0
PutKeepsReaders R = (old new : Queued R) (c : Change R) → AppendsToAll c old new → KeepsReaders old new

abbrev pub TakeKeepsReaders : Type 0 → Type 0
TakeKeepsReaders R =
    (old new : Queued R) (reader : ℕ) (result : Option (Change R)) → Takes old new reader result → KeepsReaders old new

abbrev pub JoinKeepsReaders : Type 0 → Type 0
JoinKeepsReaders R = (queued : Queued R) (reader : ℕ) → KeepsReaders queued (map.insert queued reader [])

-- and where one leaves, each other one.
abbrev pub DropKeepsOthers : Type 0 → Type 0
DropKeepsOthers R =
    (queued : Queued R) (reader other : ℕ) → other ≢ reader → IsSome (map.get queued other)
    → IsSome (map.get (map.remove queued reader) other)

-- ---- one reader
-- Where what every reader hasn't taken leads to the best rows, it does so for each number.
abbrev pub EachReaderLeads : Type 0 → Type 0
EachReaderLeads R = (queued : Queued R) (best : Rows R) (reader : ℕ) → AllLead queued best → ReaderLeads queued reader best

-- A change of the best rows that is put leaves the rows that a reader has.
abbrev pub PutKeepsRead : Type 0 → Type 0
PutKeepsRead R =
    (old new : Queued R) (best now : Rows R) (p : AddressPrefix) (c : Change R) (reader : ℕ) → AppendsToAll c old new → IsSent best now p (Some c)
    → IsSome (map.get old reader) → read_rows new reader now ≡ read_rows old reader best

-- What one reader takes leaves what the others haven't taken.
abbrev pub TakeKeepsOthers : Type 0 → Type 0
TakeKeepsOthers R =
    (old new : Queued R) (reader : ℕ) (result : Option (Change R)) → Takes old new reader result → KeepsOtherReaders reader old new
