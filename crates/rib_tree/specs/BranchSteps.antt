-- What each call makes of a branch, and the entries that it writes.
use Rattle.std.specs.Prelude.{ℕ, ◌+◌, ◌||◌, Bool, cond, List, map, Option}
use Rattle.std.specs.List.{list_any}
use Rattle.std.specs.FinMap.{FinMap}
use Rattle.addr4.specs.Prefixes.{AddressPrefix, prefix_cmp}
use Rattle.rib_route.specs.declared.Proto.{Proto}
use Rattle.rib_route.specs.Rows.{Interior}
use Rattle.link_change.specs.Rows.{is_empty_map}
use Rattle.link_change.specs.Turns.{Turn}
use Rattle.journal_text.specs.declared.link.Link.TheVariants.{Org}
use Rattle.journal_text.specs.declared.link.Task.{Task}
use Rattle.journal_text.specs.declared.link.Task.TheVariants.{Rdel}
use Rattle.journal_text.specs.Lines.{Value}
use Rattle.journal_text.specs.Lines.{Entry}
use Rattle.journal_text.specs.Journals.{Journaled}
use Rattle.journal_text.specs.Values.{interior_value}
use Rattle.loss_chain.specs.declared.owner.Owner.TheVariants.{Origin}
use Rattle.loss_chain.specs.Held.{has_row, has_over}
use Rattle.loss_chain.specs.Tables.{Tables}
use Rattle.loss_chain.specs.Steps.{no_tables, fed_tables, lost_tables, welded_tables, swept_tables, IsTakenTables, loss_entries as chain_loss_entries, weld_entries as chain_weld_entries, overdue_of as chain_overdue}
use Rattle.rib_tree.specs.Branches.{Branch}

abbrev pub new_branch : Proto → Branch
new_branch proto = record { proto = proto; losses = 0; tables = no_tables }

-- the branch with these live routes and lost tables
abbrev pub with_tables : Branch → Tables Interior → Branch
with_tables b t = record b { tables = t }

abbrev pub fed_branch : Branch → AddressPrefix → Option Interior → Branch
fed_branch b p row = with_tables b (fed_tables b.tables p row)

-- The protocol's routes are lost: they go to a stage of their own, which has the next number. Where no route is live, all stays
-- as it is.
abbrev pub lost_branch : Branch → Branch
lost_branch b = record b {
  losses = cond (is_empty_map b.tables.live) b.losses (b.losses + 1);
  tables = lost_tables (b.losses + 1) b.tables;
}

abbrev pub loss_entries : Branch → List (Entry Value)
loss_entries b = chain_loss_entries (Origin b.proto) (b.losses + 1) b.tables

-- an empty stage goes
abbrev pub welded_branch : Branch → Branch
welded_branch b = with_tables b (welded_tables b.tables)

abbrev pub weld_entries : Branch → List (Entry Value)
weld_entries b = chain_weld_entries (Origin b.proto) (Org b.proto) b.tables.deletions

-- the row at a prefix leaves the table of a loss
abbrev pub swept_branch : ℕ → AddressPrefix → Branch → Branch
swept_branch loss p b = with_tables b (swept_tables loss p b.tables)

-- what a turn of the stage of a loss came to; where no such stage stands, nothing
abbrev pub IsTakenBranch : Branch → Branch → ℕ → Journaled → Journaled → Turn Interior → Type 0
IsTakenBranch old new loss before now turn = IsTakenTables interior_value (Origin old.proto) old.tables new.tables loss before now turn

-- the stage that has to go before another one may come: where 16 stand, and the table to be lost isn't empty
abbrev pub overdue_of : Branch → Option Task
overdue_of b = chain_overdue (Origin b.proto) b.tables

-- whether a table, if there is one, has a row at a prefix, or at one that holds one of these addresses
abbrev pub table_holds_up : Option (FinMap prefix_cmp Interior) → AddressPrefix → List ℕ → Bool
table_holds_up t p addresses = has_row t p || list_any (has_over t) addresses

-- the tasks of the stages, that of the earliest loss first
abbrev pub branch_tasks : Branch → List Task
branch_tasks b = map (λ d. Rdel b.proto d.number) b.tables.deletions
