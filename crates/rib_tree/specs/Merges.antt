-- What the two merges below a protocol's link make of a change on it.
use Rattle.std.specs.Prelude.{◌≡◌, Bool, if◌then◌else◌, List, [], ◌∷◌, ◌++◌, Option, Some, None}
use Rattle.addr4.specs.Prefixes.{AddressPrefix}
use Rattle.rib_route.specs.declared.Proto.{Proto}
use Rattle.rib_route.specs.declared.Proto.TheVariants.{Connected, Static, Ospf, Rip}
use Rattle.rib_route.specs.Rows.{Interior}
use Rattle.rib_merge.specs.declared.merge.Side.{Side}
use Rattle.rib_merge.specs.declared.merge.Side.TheVariants.{Left, Right}
use Rattle.link_change.specs.Rows.{Rows}
use Rattle.link_change.specs.Changes.{IsSent}
use Rattle.link_change.specs.Changes.{Change}
use Rattle.journal_text.specs.declared.link.Link.{Link}
use Rattle.journal_text.specs.declared.link.Link.TheVariants.{Int}
use Rattle.journal_text.specs.Lines.{Value}
use Rattle.journal_text.specs.Lines.{Entry}
use Rattle.journal_text.specs.Journals.{Journaled, Adds}
use Rattle.journal_text.specs.Values.{interior_value, sent_entries as entries_sent}
use Rattle.journal_text.specs.Falls.{GoesDown}
use Rattle.rib_tree.specs.Branches.{org_rows}
use Rattle.rib_tree.specs.Trees.{Treed, branch_of, put_branch, low_rows, dyn_rows, int_rows}
use Rattle.rib_tree.specs.Falls.{merge_below}

-- the other protocol whose rows come into the same merge, and which side of it each is
abbrev pub partner_of : Proto → Proto
partner_of Connected = Static
partner_of Static = Connected
partner_of Ospf = Rip
partner_of Rip = Ospf

abbrev pub side_of : Proto → Side
side_of Connected = Left
side_of Static = Right
side_of Ospf = Left
side_of Rip = Right

-- which side of the merge into `int` that link is
abbrev pub side_below : Proto → Side
side_below Connected = Left
side_below Static = Left
side_below Ospf = Right
side_below Rip = Right

-- the rows of that link, and of the one on the other side
abbrev pub rows_into : Proto → Treed → Rows Interior
rows_into Connected t = low_rows t
rows_into Static t = low_rows t
rows_into Ospf t = dyn_rows t
rows_into Rip t = dyn_rows t

abbrev pub rows_beside : Proto → Treed → Rows Interior
rows_beside Connected t = dyn_rows t
rows_beside Static t = dyn_rows t
rows_beside Ospf t = low_rows t
rows_beside Rip t = low_rows t

-- no branch but a protocol's may differ
abbrev pub DifferAt : Proto → Treed → Treed → Type 0
DifferAt proto old new = new ≡ put_branch proto (branch_of proto new) old

-- where a change leads from the old rows of the protocol's link to those of this tree, what goes out leads from the old rows of the
-- merged link to its rows in this tree
abbrev pub MergesInto : Proto → Treed → Change Interior → Option (Change Interior) → Type 0
MergesInto proto new change sent =
    (old : Treed) (p : AddressPrefix) → DifferAt proto old new → IsSent (org_rows (branch_of proto old)) (org_rows (branch_of proto new)) p (Some change)
    → IsSent (rows_into proto old) (rows_into proto new) p sent

-- the same of the merged link and `int`
abbrev pub MergesBelow : Proto → Treed → Change Interior → Option (Change Interior) → Type 0
MergesBelow proto new change sent =
    (old : Treed) (p : AddressPrefix) → DifferAt proto old new → IsSent (rows_into proto old) (rows_into proto new) p (Some change)
    → IsSent (int_rows old) (int_rows new) p sent

-- the change that goes on, if it does
abbrev pub sent_if : Bool → Change Interior → Option (Change Interior)
sent_if went change = if went then Some change else None

-- the entry of what a merge sends
abbrev pub sent_entries : Link → Option (Change Interior) → List (Entry Value)
sent_entries = entries_sent interior_value

-- what both merges send, and its entries
pub record PassesDown (proto : Proto) (old new : Treed) (p : AddressPrefix) (sent : Option (Change Interior)) (entries : List (Entry Value)) : Type 0 where
  pub middle : Option (Change Interior)
  pub into : IsSent (rows_into proto old) (rows_into proto new) p middle
  pub rows : IsSent (int_rows old) (int_rows new) p sent
  pub lines : entries ≡ sent_entries (merge_below proto) middle ++ sent_entries Int sent
  pub down : GoesDown p (merge_below proto ∷ Int ∷ []) sent entries

abbrev pub IsPassedDown : Proto → Treed → Change Interior → Journaled → Journaled → Option (Change Interior) → Type 0
IsPassedDown proto new change before now sent =
    (old : Treed) (p : AddressPrefix) → DifferAt proto old new → IsSent (org_rows (branch_of proto old)) (org_rows (branch_of proto new)) p (Some change)
    → Adds (PassesDown proto old new p sent) before now
