-- Laws of the tree, for the crates above.
use Rattle.std.specs.Prelude.{◌≡◌, ℕ, ◌+◌, ◌≤◌, true, false, Some, None}
use Rattle.std.specs.List.{Contains}
use Rattle.std.specs.FinMap as map
use Rattle.std.specs.FinMap.{FinMap}
use Rattle.addr4.specs.Prefixes.{AddressPrefix, prefix_cmp}
use Rattle.rib_route.specs.declared.Proto.{Proto}
use Rattle.rib_route.specs.Rows.{Interior}
use Rattle.journal_text.specs.declared.link.Task.{Task}
use Rattle.journal_text.specs.declared.link.Task.TheVariants.{Rdel}
use Rattle.rib_tree.specs.Branches.{Branch, IsBranch, org_rows}
use Rattle.loss_chain.specs.Steps.{table_of}
use Rattle.rib_tree.specs.Trees.{Treed, branch_of, IsTree, IsFull, int_rows, interior_distance, tree_count, tree_tasks}
use Rattle.rib_tree.specs.Steps.{new_tree, lost_tree, welded_tree, swept_tree, has_tree_turn, tree_lags, tree_over}

-- What calls require of a tree holds of a new one.
abbrev pub ANewTreeStands : Type 0
ANewTreeStands = IsTree new_tree × IsFull new_tree

-- A row of `int` is the row of its protocol, and no protocol has a row of lesser distance there.
abbrev pub TheLeastDistanceStands : Type 0
TheLeastDistanceStands =
    (t : Treed) (p : AddressPrefix) (row : Interior) → IsTree t → int_rows t p ≡ Some row
    → (org_rows (branch_of row.proto t) p ≡ Some row)
    × ((proto : Proto) (other : Interior) → org_rows (branch_of proto t) p ≡ Some other → interior_distance row ≤ interior_distance other)

-- `int` has none only where no protocol has one.
abbrev pub EachRowCounts : Type 0
EachRowCounts = (t : Treed) (p : AddressPrefix) → int_rows t p ≡ None → (proto : Proto) → org_rows (branch_of proto t) p ≡ None

-- A turn of a deletion stage takes one row.
abbrev pub TurnsTakeRows : Type 0
TurnsTakeRows =
    (t : Treed) (proto : Proto) (n : ℕ) (p : AddressPrefix) (table : FinMap prefix_cmp Interior) (row : Interior) → IsTree t
    → table_of n (branch_of proto t).tables.deletions ≡ Some table → map.get table p ≡ Some row
    → tree_count (swept_tree proto n p t) + 1 ≡ tree_count t

-- When an empty stage goes, as many rows stay.
abbrev pub WeldsKeepRows : Type 0
WeldsKeepRows = (t : Treed) (proto : Proto) → tree_count (welded_tree proto t) ≡ tree_count t

-- When a protocol is lost, as many rows stay.
abbrev pub LossesKeepRows : Type 0
LossesKeepRows = (t : Treed) (proto : Proto) → tree_count (lost_tree proto t) ≡ tree_count t

-- Each row of `org.PROTO` is one of the protocol.
abbrev pub RowsAreOwn : Type 0
RowsAreOwn = (b : Branch) (p : AddressPrefix) (row : Interior) → IsBranch b → org_rows b p ≡ Some row → row.proto ≡ b.proto

-- ---- which tasks hold up a prefix
-- A task without work holds up none.
abbrev pub NoneHeldUpWithoutWork : Type 0
NoneHeldUpWithoutWork =
    (t : Treed) (task : Task) (p : AddressPrefix) (a : ℕ) → has_tree_turn t task ≡ false → (tree_lags t task p ≡ false) × (tree_over t task a ≡ false)

-- One with work is among the tree's tasks.
abbrev pub WorkIsListed : Type 0
WorkIsListed = (t : Treed) → IsTree t → (task : Task) → has_tree_turn t task ≡ true → Contains (tree_tasks t) task

-- Where no task of a protocol holds up a prefix, the row of `org.PROTO` is the live one.
abbrev pub OrgWhereNoneIsLost : Type 0
OrgWhereNoneIsLost =
    (t : Treed) → IsTree t → (proto : Proto) (q : AddressPrefix) → ((n : ℕ) → tree_lags t (Rdel proto n) q ≡ false)
    → org_rows (branch_of proto t) q ≡ map.get (branch_of proto t).tables.live q
