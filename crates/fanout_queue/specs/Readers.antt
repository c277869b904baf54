-- What one reader of a queue has, and what it hasn't taken.
use Rattle.std.specs.Prelude.{◌≡◌, ◌≢◌, ℕ, List, [], Option, Some, None}
use Rattle.std.specs.FinMap as map
use Rattle.link_change.specs.Rows.{Rows, Candidates, together}
use Rattle.link_change.specs.InOrder.{ChangesLead, rows_before, changed_in}
use Rattle.link_change.specs.Changes.{Change}
use Rattle.fanout_queue.specs.Queues.{Queued}

module _ {R : Type 0} where
  abbrev pub unread_or_none : Option (List (Change R)) → List (Change R)
  unread_or_none None = []
  unread_or_none (Some unread) = unread

  -- the changes that a reader hasn't taken
  abbrev pub unread_by : Queued R → ℕ → List (Change R)
  unread_by queued reader = unread_or_none (map.get queued reader)

  -- the rows that it has, where these are the best ones
  abbrev pub read_rows : Queued R → ℕ → Rows R → Rows R
  read_rows queued reader best = rows_before (unread_by queued reader) best

  -- the row before a change, or where there is none this row
  abbrev pub row_before : Option (Change R) → Option R → Option R
  row_before None best = best
  row_before (Some change) best = change.before

  -- where walks over these rows go, where these are the candidates of the best ones
  abbrev pub read_candidates : Queued R → ℕ → Candidates → Candidates
  read_candidates queued reader candidates = together candidates (changed_in (unread_by queued reader))

  -- what it hasn't taken leads from the rows that it has to the best ones
  abbrev pub ReaderLeads : Queued R → ℕ → Rows R → Type 0
  ReaderLeads queued reader best = ChangesLead (read_rows queued reader best) (unread_by queued reader) best

  -- every other reader hasn't taken what it hadn't taken before
  abbrev pub KeepsOtherReaders : ℕ → Queued R → Queued R → Type 0
  KeepsOtherReaders reader old new = (other : ℕ) → other ≢ reader → map.get new other ≡ map.get old other
