-- What each call makes of the tree, and the entries that it writes.
use Rattle.std.specs.Prelude.{◌≡◌, ℕ, Bool, false, is_some, List, Option, Some, None}
use Rattle.std.specs.FinMap as map
use Rattle.std.specs.FinMap.{FinMap}
use Rattle.addr4.specs.Prefixes.{AddressPrefix, prefix_cmp}
use Rattle.rib_route.specs.declared.Proto.{Proto}
use Rattle.rib_route.specs.declared.Proto.TheVariants.{Connected, Static, Ospf, Rip}
use Rattle.rib_route.specs.Rows.{Interior}
use Rattle.link_change.specs.Changes.{IsSent}
use Rattle.link_change.specs.Changes.{Change}
use Rattle.link_change.specs.Turns.{Turn}
use Rattle.link_change.specs.declared.turn.Turn.TheVariants.{Nothing, Quiet, Sent}
use Rattle.loss_chain.specs.Covering.{IsLeastRow}
use Rattle.journal_text.specs.declared.link.Link.TheVariants.{Org}
use Rattle.journal_text.specs.declared.link.Task.{Task}
use Rattle.journal_text.specs.declared.link.Task.TheVariants.{Rdel}
use Rattle.journal_text.specs.Lines.{Value}
use Rattle.journal_text.specs.Lines.{Entry}
use Rattle.journal_text.specs.Journals.{Journaled, Adds}
use Rattle.rib_tree.specs.BranchSteps.{new_branch, fed_branch, lost_branch, loss_entries, welded_branch, swept_branch, overdue_of, table_holds_up}
use Rattle.loss_chain.specs.declared.owner.Owner.TheVariants.{Origin}
use Rattle.loss_chain.specs.Held.{has_row, has_over}
use Rattle.loss_chain.specs.Steps.{weld_entries, table_of}
use Rattle.rib_tree.specs.Trees.{Treed, branch_of, put_branch, int_rows, IsFull, IsFullBut}
use Rattle.rib_tree.specs.Falls.{FallsTree, way_of_sweep}

-- no route, and no loss
abbrev pub new_tree : Treed
new_tree = record { connected = new_branch Connected; statics = new_branch Static; ospf = new_branch Ospf; rip = new_branch Rip }

-- a protocol's route at a prefix is this one, or gone
abbrev pub fed_tree : Treed → Proto → AddressPrefix → Option Interior → Treed
fed_tree t proto p row = put_branch proto (fed_branch (branch_of proto t) p row) t

-- a protocol is lost: its routes go to a stage of their own, if there are any
abbrev pub lost_tree : Proto → Treed → Treed
lost_tree proto t = put_branch proto (lost_branch (branch_of proto t)) t

abbrev pub tree_loss_entries : Proto → Treed → List (Entry Value)
tree_loss_entries proto t = loss_entries (branch_of proto t)

-- a protocol's empty stage goes
abbrev pub welded_tree : Proto → Treed → Treed
welded_tree proto t = put_branch proto (welded_branch (branch_of proto t)) t

abbrev pub tree_weld_entries : Proto → Treed → List (Entry Value)
tree_weld_entries proto t = weld_entries (Origin proto) (Org proto) (branch_of proto t).tables.deletions

-- the row at a prefix leaves the table of a loss
abbrev pub swept_tree : Proto → ℕ → AddressPrefix → Treed → Treed
swept_tree proto n p t = put_branch proto (swept_branch n p (branch_of proto t)) t

-- the stage that has to go before the protocol may be lost once more
abbrev pub tree_overdue : Proto → Treed → Option Task
tree_overdue proto t = overdue_of (branch_of proto t)

-- A turn of the stage of a protocol's loss: its least row goes, and the messages of that go down.
pub record SweepsTree (old new : Treed) (proto : Proto) (n : ℕ) (sent : Option (Change Interior)) (entries : List (Entry Value)) : Type 0 where
  pub prefix : AddressPrefix
  pub row : Interior
  pub table : FinMap prefix_cmp Interior
  pub stands : table_of n (branch_of proto old).tables.deletions ≡ Some table
  pub least : IsLeastRow (map.get table) prefix (Some row)
  pub after : new ≡ swept_tree proto n prefix old
  pub fall : FallsTree old new prefix (way_of_sweep proto n old) sent entries
  pub rows : IsSent (int_rows old) (int_rows new) prefix sent

-- whether a task is one of the tree's and has work
abbrev pub has_tree_turn : Treed → Task → Bool
has_tree_turn t (Rdel proto n) = is_some (table_of n (branch_of proto t).tables.deletions)
has_tree_turn t other = false

-- whether the lost table of a task still has a prefix, and one that holds an address
abbrev pub tree_lags : Treed → Task → AddressPrefix → Bool
tree_lags t (Rdel proto n) p = has_row (table_of n (branch_of proto t).tables.deletions) p
tree_lags t other p = false

abbrev pub tree_over : Treed → Task → ℕ → Bool
tree_over t (Rdel proto n) a = has_over (table_of n (branch_of proto t).tables.deletions) a
tree_over t other a = false

-- whether it still has a prefix, or one that holds one of these addresses
abbrev pub tree_holds_up : Treed → AddressPrefix → List ℕ → Task → Bool
tree_holds_up t p addresses (Rdel proto n) = table_holds_up (table_of n (branch_of proto t).tables.deletions) p addresses
tree_holds_up t p addresses other = false

-- a turn of a task of the tree
abbrev pub TurnedTree : Treed → Treed → Task → Option (Change Interior) → List (Entry Value) → Type 0
TurnedTree old new (Rdel proto n) sent entries = SweepsTree old new proto n sent entries
TurnedTree old new other sent entries = ⊥

-- What a turn that came to this made of the tree and of the journal.
abbrev pub IsTakenTree : Treed → Treed → Task → Journaled → Journaled → Turn Interior → Type 0
IsTakenTree old new task before now Nothing = (has_tree_turn old task ≡ false) × ((new ≡ old) × (now ≡ before))
IsTakenTree old new task before now Quiet = Adds (TurnedTree old new task None) before now
IsTakenTree old new task before now (Sent change) = Adds (TurnedTree old new task (Some change)) before now

-- a turn empties a table of its own protocol at most
abbrev pub IsFullAfter : Task → Treed → Type 0
IsFullAfter (Rdel proto n) t = IsFullBut proto t
IsFullAfter other t = IsFull t
