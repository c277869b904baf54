-- What one change of an interior route causes: messages at one prefix, down the links of the tree.
use Rattle.std.specs.Prelude.{ℕ, List, [], ◌∷◌, ◌++◌, Option}
use Rattle.addr4.specs.Prefixes.{AddressPrefix}
use Rattle.rib_route.specs.declared.Proto.{Proto}
use Rattle.rib_route.specs.declared.Proto.TheVariants.{Connected, Static, Ospf, Rip}
use Rattle.rib_route.specs.Rows.{Interior}
use Rattle.link_change.specs.Changes.{Change}
use Rattle.journal_text.specs.declared.link.Link.{Link}
use Rattle.journal_text.specs.declared.link.Link.TheVariants.{Org, Low, Dyn, Int}
use Rattle.journal_text.specs.Lines.{Value}
use Rattle.journal_text.specs.Lines.{Entry}
use Rattle.journal_text.specs.Walk.{Links, Leads}
use Rattle.journal_text.specs.Falls.{GoesDown}
use Rattle.loss_chain.specs.declared.owner.Owner.TheVariants.{Origin}
use Rattle.loss_chain.specs.Falls.{way_down, way_from}
use Rattle.rib_tree.specs.Trees.{Treed, branch_of, beside_tree}

-- the link that a protocol's rows are merged into
abbrev pub merge_below : Proto → Link
merge_below Connected = Low
merge_below Static = Low
merge_below Ospf = Dyn
merge_below Rip = Dyn

-- from the live routes of a protocol down to `int`
abbrev pub way_of_route : Proto → Treed → List Link
way_of_route proto t = way_down (Origin proto) (Org proto) (branch_of proto t).tables.deletions ++ (merge_below proto ∷ Int ∷ [])

-- from the stage of a protocol's loss down to `int`
abbrev pub way_of_sweep : Proto → ℕ → Treed → List Link
way_of_sweep proto n t = way_from (Origin proto) n (Org proto) (branch_of proto t).tables.deletions ++ (merge_below proto ∷ Int ∷ [])

-- Whatever other links there are, the entries lead by the rules of the journal from the tree's old links to its new ones.
abbrev pub LeadsTree : Treed → List (Entry Value) → Treed → Type 0
LeadsTree old entries new = (others : Links Value) → Leads (beside_tree others old) entries (beside_tree others new)

-- a fall at a prefix down this way
pub record FallsTree (old new : Treed) (p : AddressPrefix) (way : List Link) (sent : Option (Change Interior)) (entries : List (Entry Value)) : Type 0 where
  pub leads : LeadsTree old entries new
  pub down : GoesDown p way sent entries
