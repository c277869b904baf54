-- What each call makes of a chain, and the entries that it writes.
use Rattle.std.specs.Prelude.{◌≡◌, ℕ, ◌<◌, ◌==◌, ◌&&◌, Bool, false, is_some, List, [], Option, Some, None}
use Rattle.std.specs.FinMap as tables
use Rattle.std.specs.FinMap.{FinMap}
use Rattle.addr4.specs.Prefixes.{AddressPrefix, prefix_cmp}
use Rattle.bgp_attr.specs.Attributes.{Attrs}
use Rattle.bgp_attr.specs.Routes.{Route}
use Rattle.bgp_attr.specs.Speakers.{Speaker}
use Rattle.bgp_attr.specs.declared.speaker.Neighbour.{Neighbour}
use Rattle.link_change.specs.Rows.{with_rows}
use Rattle.link_change.specs.Changes.{IsSent}
use Rattle.link_change.specs.Changes.{Change}
use Rattle.link_change.specs.Turns.{Turn}
use Rattle.link_change.specs.declared.turn.Turn.TheVariants.{Nothing, Quiet, Sent}
use Rattle.loss_chain.specs.Covering.{IsLeastRow}
use Rattle.policy_rules.specs.Rules.{Rule}
use Rattle.pass_core.specs.Passed.{edited}
use Rattle.pass_core.specs.Turns.{row_lags}
use Rattle.loss_chain.specs.Held.{has_row}
use Rattle.filter_bank.specs.Walks.{Walks}
use Rattle.journal_text.specs.declared.link.Link.TheVariants.{Filt}
use Rattle.journal_text.specs.declared.link.Task.{Task}
use Rattle.journal_text.specs.declared.link.Task.TheVariants.{Del, Fin}
use Rattle.journal_text.specs.Lines.{Value}
use Rattle.journal_text.specs.Lines.{Entry}
use Rattle.journal_text.specs.Journals.{Journaled, Adds}
use Rattle.journal_text.specs.Values.{route_value, sent_entries}
use Rattle.in_chain.specs.Incomings.{in_rows}
use Rattle.loss_chain.specs.Steps.{no_tables, fed_tables, lost_tables, welded_tables, swept_tables, table_of}
use Rattle.in_chain.specs.Chains.{Chained, with_tables, filt_rows, turns_left}
use Rattle.in_chain.specs.Falls.{Falls, LeadsChain, way_of_sweep}

-- no route, no deletion stage, and no rule
abbrev pub new_chain : Speaker → Neighbour → Chained
new_chain me peer = record {
  incoming = record { number = peer.number; tables = no_tables };
  me = me;
  peer = peer;
  filter = record { in_force = []; walk = None };
}

abbrev pub fed : Chained → AddressPrefix → Option Attrs → Chained
fed c p row = with_tables c (fed_tables c.incoming.tables p row)

-- a session is lost: its routes go to a stage of their own, if there are any
abbrev pub lost : ℕ → Chained → Chained
lost session c = with_tables c (lost_tables session c.incoming.tables)

-- an empty stage goes
abbrev pub welded : Chained → Chained
welded c = with_tables c (welded_tables c.incoming.tables)

-- the row at a prefix leaves the lost table of a session
abbrev pub swept : ℕ → AddressPrefix → Chained → Chained
swept session p c = with_tables c (swept_tables session p c.incoming.tables)

-- the filter has new rules, which hold nowhere yet
abbrev pub refiltered : List Rule → Chained → Chained
refiltered rules c = record c { filter = edited c.filter rules }

-- A turn of the stage of a session: its least row goes, and the messages of that go down.
pub record Sweeps (old new : Chained) (session : ℕ) (sent : Option (Change Route)) (entries : List (Entry Value)) : Type 0 where
  pub prefix : AddressPrefix
  pub row : Attrs
  pub table : FinMap prefix_cmp Attrs
  pub stands : table_of session old.incoming.tables.deletions ≡ Some table
  pub least : IsLeastRow (tables.get table) prefix (Some row)
  pub after : new ≡ swept session prefix old
  pub fall : Falls old new prefix (way_of_sweep session old.incoming) sent entries
  pub rows : IsSent (filt_rows old) (filt_rows new) prefix sent

-- the entry of what the filter sends
abbrev pub filter_entries : ℕ → Option (Change Route) → List (Entry Value)
filter_entries k = sent_entries route_value (Filt k)

-- A turn of the filter's walk over the rows of `in.K`: nothing else changes, and fewer turns are left.
pub record Rewalks (old new : Chained) (sent : Option (Change Route)) (entries : List (Entry Value)) : Type 0 where
  pub walks : Walks old.me old.peer (with_rows (in_rows old.incoming)) (in_rows old.incoming) old.filter new.filter sent
  pub after : new ≡ record old { filter = new.filter }
  pub lines : entries ≡ filter_entries old.incoming.number sent
  pub leads : LeadsChain old entries new
  pub fewer : turns_left new < turns_left old

-- whether a task is one of the chain's and has work
abbrev pub has_turn : Chained → Task → Bool
has_turn c (Del k s) = k == c.incoming.number && is_some (table_of s c.incoming.tables.deletions)
has_turn c (Fin k) = k == c.incoming.number && is_some c.filter.walk
has_turn c other = false

-- whether a task of the chain holds up a prefix: the stage's table still has it, or the walk of the filter has yet to come to the row
-- of `in.K` there
abbrev pub chain_lags : Chained → Task → AddressPrefix → Bool
chain_lags c (Del k s) p = k == c.incoming.number && has_row (table_of s c.incoming.tables.deletions) p
chain_lags c (Fin k) p = k == c.incoming.number && row_lags c.filter p (in_rows c.incoming p)
chain_lags c other p = false

-- The next turn of the stage of a session takes the row at this prefix: the stage stands, and this is its least row.
pub record TakesNext (c : Chained) (session : ℕ) (p : AddressPrefix) : Type 0 where
  pub row : Attrs
  pub table : FinMap prefix_cmp Attrs
  pub stands : table_of session c.incoming.tables.deletions ≡ Some table
  pub least : IsLeastRow (tables.get table) p (Some row)

-- the next turn of a task takes the row at this prefix: only a stage's does
abbrev pub IsNextLost : Chained → Task → AddressPrefix → Type 0
IsNextLost c (Del k s) p = (k ≡ c.incoming.number) × TakesNext c s p
IsNextLost c other p = ⊥

-- the answer is the prefix whose row the next turn of the task takes; None where its next turn takes none
abbrev pub FindsNextLost : Chained → Task → Option AddressPrefix → Type 0
FindsNextLost c task None = (p : AddressPrefix) → IsNextLost c task p → ⊥
FindsNextLost c task (Some p) = IsNextLost c task p

-- a turn of a task of the chain
abbrev pub Turned : Chained → Chained → Task → Option (Change Route) → List (Entry Value) → Type 0
Turned old new (Del k s) sent entries = (k ≡ old.incoming.number) × Sweeps old new s sent entries
Turned old new (Fin k) sent entries = (k ≡ old.incoming.number) × Rewalks old new sent entries
Turned old new other sent entries = ⊥

-- What a turn that came to this made of the chain and of the journal.
abbrev pub IsTaken : Chained → Chained → Task → Journaled → Journaled → Turn Route → Type 0
IsTaken old new task before now Nothing = (has_turn old task ≡ false) × ((new ≡ old) × (now ≡ before))
IsTaken old new task before now Quiet = Adds (Turned old new task None) before now
IsTaken old new task before now (Sent change) = Adds (Turned old new task (Some change)) before now
