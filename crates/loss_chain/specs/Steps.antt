-- What each call makes of a chain, and the entries that it writes.
use Rattle.std.specs.Prelude.{◌≡◌, ℕ, ◌==◌, ◌||◌, nat_lt, length, not, if◌then◌else◌, cond, List, [], ◌∷◌, ◌++◌, map, filter, Option, Some, None}
use Rattle.std.specs.FinMap as tables
use Rattle.std.specs.FinMap.{FinMap}
use Rattle.addr4.specs.Prefixes.{AddressPrefix, prefix_cmp}
use Rattle.link_change.specs.Rows.{is_empty_map}
use Rattle.link_change.specs.Changes.{IsSent}
use Rattle.link_change.specs.Changes.{Change}
use Rattle.link_change.specs.Turns.{Turn}
use Rattle.link_change.specs.declared.turn.Turn.TheVariants.{Nothing, Quiet, Sent}
use Rattle.loss_chain.specs.Lost.{Lost}
use Rattle.loss_chain.specs.Covering.{IsLeastRow}
use Rattle.journal_text.specs.declared.link.Link.{Link}
use Rattle.journal_text.specs.declared.link.Task.{Task}
use Rattle.journal_text.specs.Lines.{Value}
use Rattle.journal_text.specs.Lines.{Entry}
use Rattle.journal_text.specs.declared.entry.Entry.TheVariants.{Begin, Weld}
use Rattle.journal_text.specs.Journals.{Journaled, Adds}
use Rattle.loss_chain.specs.declared.owner.Owner.{Owner}
use Rattle.loss_chain.specs.Owners.{lowest_link, lost_link, loss_task}
use Rattle.loss_chain.specs.Tables.{Tables, lowest_rows}
use Rattle.loss_chain.specs.Falls.{FallsTables, way_from}

abbrev pub no_tables : {R : Type 0} → Tables R
no_tables = record { live = tables.empty; deletions = [] }

-- the live rows after one is set at a prefix, or taken away
abbrev pub live_after : {R : Type 0} → FinMap prefix_cmp R → AddressPrefix → Option R → FinMap prefix_cmp R
live_after live p None = tables.remove live p
live_after live p (Some row) = tables.insert live p row

abbrev pub without : {R : Type 0} → AddressPrefix → Lost R → Lost R
without p d = record { number = d.number; rows = tables.remove d.rows p }

-- a row that is set takes its prefix out of the lost tables
abbrev pub deletions_after : {R : Type 0} → List (Lost R) → AddressPrefix → Option R → List (Lost R)
deletions_after ds p None = ds
deletions_after ds p (Some row) = map (without p) ds

abbrev pub fed_tables : {R : Type 0} → Tables R → AddressPrefix → Option R → Tables R
fed_tables t p row = record { live = live_after t.live p row; deletions = deletions_after t.deletions p row }

-- the source is lost: its rows go to a stage of their own, if there are any
abbrev pub lost_tables : {R : Type 0} → ℕ → Tables R → Tables R
lost_tables number t = record {
  live = tables.empty;
  deletions = cond (is_empty_map t.live) t.deletions (t.deletions ++ record { number = number; rows = t.live } ∷ []);
}

abbrev pub loss_entries : {R : Type 0} → Owner → ℕ → Tables R → List (Entry Value)
loss_entries o number t = cond (is_empty_map t.live) [] (Begin (lost_link o number) ∷ [])

-- an empty stage goes
abbrev pub welded_tables : {R : Type 0} → Tables R → Tables R
welded_tables t = record { live = t.live; deletions = filter (λ d. not (is_empty_map d.rows)) t.deletions }

-- the upper link of the lowest empty stage is welded into its lower one
abbrev pub weld_entries : {R : Type 0} → Owner → Link → List (Lost R) → List (Entry Value)
weld_entries o out [] = []
weld_entries o out (d ∷ ds) = cond (is_empty_map d.rows) (Weld (lost_link o d.number) out ∷ []) (weld_entries o (lost_link o d.number) ds)

-- the lost table of a loss
abbrev pub table_of : {R : Type 0} → ℕ → List (Lost R) → Option (FinMap prefix_cmp R)
table_of number [] = None
table_of number (d ∷ ds) = if d.number == number then Some d.rows else table_of number ds

-- the row at a prefix leaves the lost table of a loss
abbrev pub swept_one : {R : Type 0} → ℕ → AddressPrefix → Lost R → Lost R
swept_one number p d = if d.number == number then without p d else d

abbrev pub swept_tables : {R : Type 0} → ℕ → AddressPrefix → Tables R → Tables R
swept_tables number p t = record { live = t.live; deletions = map (swept_one number p) t.deletions }

-- A turn of the stage of a loss: its least row goes, and the messages of that go down.
pub record SweepsTables {R : Type 0} (value : R → Value) (o : Owner) (old new : Tables R) (number : ℕ) (sent : Option (Change R)) (entries : List (Entry Value)) : Type 0 where
  pub prefix : AddressPrefix
  pub row : R
  pub table : FinMap prefix_cmp R
  pub stands : table_of number old.deletions ≡ Some table
  pub least : IsLeastRow (tables.get table) prefix (Some row)
  pub after : new ≡ swept_tables number prefix old
  pub fall : FallsTables value o old new prefix (way_from o number (lowest_link o) old.deletions) sent entries
  pub rows : IsSent (lowest_rows old) (lowest_rows new) prefix sent

-- the task of the stage that stands longest
abbrev pub oldest_of : {R : Type 0} → Owner → List (Lost R) → Option Task
oldest_of o [] = None
oldest_of o (d ∷ ds) = Some (loss_task o d.number)

-- the first of some tasks
abbrev pub first_task : List Task → Option Task
first_task [] = None
first_task (task ∷ tasks) = Some task

-- the stage that has to go before another one may come: where 16 stand, and the table to be lost isn't empty
abbrev pub overdue_of : {R : Type 0} → Owner → Tables R → Option Task
overdue_of o t = cond (nat_lt (length t.deletions) 16 || is_empty_map t.live) None (oldest_of o t.deletions)

-- What a turn of the stage of a loss came to; where no such stage stands, nothing.
abbrev pub IsTakenTables : {R : Type 0} → (R → Value) → Owner → Tables R → Tables R → ℕ → Journaled → Journaled → Turn R → Type 0
IsTakenTables value o old new number before now Nothing = (table_of number old.deletions ≡ None) × ((new ≡ old) × (now ≡ before))
IsTakenTables value o old new number before now Quiet = Adds (SweepsTables value o old new number None) before now
IsTakenTables value o old new number before now (Sent change) = Adds (SweepsTables value o old new number (Some change)) before now
