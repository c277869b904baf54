-- A tree without routes.
use Rattle.std.proofs.Common.{◌≡◌, refl}
use Rattle.link_change.specs.Rows.{no_rows}
use Rattle.link_change.proofs.RowLemmas.{empty_rows}
use Rattle.rib_route.specs.declared.Proto.{Proto}
use Rattle.rib_route.specs.declared.Proto.TheVariants.{Connected, Static, Ospf, Rip}
use Rattle.rib_route.specs.Rows.{Interior}
use Rattle.rib_merge.specs.Merging.{merged}
use Rattle.rib_tree.specs.Branches.{Branch, IsBranch, org_rows}
use Rattle.rib_tree.specs.BranchSteps.{new_branch}
use Rattle.loss_chain.specs.Tables.{NoneEmpty}
use Rattle.rib_tree.specs.Trees.{branch_of, low_rows, dyn_rows, int_rows, interior_distance}
use Rattle.rib_tree.specs.Steps.{new_tree}
use Rattle.rib_tree.specs.Laws.{ANewTreeStands}
use Rattle.rib_tree.proofs.OwnLemmas.{new_is_branch}

-- what holds of a new branch of each protocol
pub of_new : (P : Branch → Type 0) → ((proto : Proto) → P (new_branch proto)) → (proto : Proto) → P (branch_of proto new_tree)
of_new P each Connected = each Connected
of_new P each Static = each Static
of_new P each Ospf = each Ospf
of_new P each Rip = each Rip

pub new_stands : ANewTreeStands
new_stands = (
  record { each = of_new IsBranch new_is_branch; placed = λ proto. elim proto as (λ k. (branch_of k new_tree).proto ≡ k) [ Connected ↦ refl | Static ↦ refl | Ospf ↦ refl | Rip ↦ refl ] },
  of_new (λ b. NoneEmpty b.tables.deletions) (λ proto. tt),
)

-- no link has a row
pub org_empty : (proto : Proto) → org_rows (branch_of proto new_tree) ≡ no_rows
org_empty = of_new (λ b. org_rows b ≡ no_rows) (λ proto. empty_rows {V = Interior})

pub low_empty : low_rows new_tree ≡ no_rows
low_empty i = merged interior_distance (org_empty Connected i) (org_empty Static i)

pub dyn_empty : dyn_rows new_tree ≡ no_rows
dyn_empty i = merged interior_distance (org_empty Ospf i) (org_empty Rip i)

pub int_empty : int_rows new_tree ≡ no_rows
int_empty i = merged interior_distance (low_empty i) (dyn_empty i)
