-- What contracts see of the RIB's tree down to `int`: the part of each interior protocol, and the links that merge them
-- (NSDI 2005, section 5.2).
use Rattle.std.specs.Prelude.{◌≡◌, ℕ, ◌+◌, ◌≤◌, cond, Bool, true, false, List, ◌++◌, Some, None, option_map, refl}
use Rattle.std.specs.Coded.{Coded, code_by, coded×}
use Rattle.rib_route.specs.declared.Proto.{Proto}
use Rattle.rib_route.specs.declared.Proto.TheVariants.{Connected, Static, Ospf, Rip}
use Rattle.rib_route.specs.Rows.{Interior}
use Rattle.rib_route.specs.Distances.{distance, fib_proto}
use Rattle.rib_merge.specs.Merging.{merged}
use Rattle.link_change.specs.Rows.{Rows, Candidates, with_rows}
use Rattle.journal_text.specs.declared.link.Link.{Link}
use Rattle.journal_text.specs.declared.link.Link.TheVariants.{Org, Lost, Low, Dyn, Int}
use Rattle.journal_text.specs.declared.link.Task.{Task}
use Rattle.journal_text.specs.Lines.{Value}
use Rattle.journal_text.specs.Walk.{Links}
use Rattle.journal_text.specs.Values.{interior_rows}
use Rattle.rib_tree.specs.Branches.{Branch, org_rows, IsBranch, branch_count}
use Rattle.loss_chain.specs.Tables.{rows_above, NoneEmpty, OneEmptyAtMost}
use Rattle.loss_chain.specs.Owners.{same_proto}
use Rattle.rib_tree.specs.BranchSteps.{branch_tasks}

pub record Treed : Type 0 where
  pub connected : Branch
  pub statics : Branch
  pub ospf : Branch
  pub rip : Branch

abbrev pub treed_code : Coded Branch → Coded Treed
treed_code b =
    code_by ((Branch × Branch) × (Branch × Branch)) (coded× (coded× b b) (coded× b b))
    (λ t. ((t.connected, t.statics), (t.ospf, t.rip))) (λ p. record { connected = p.0.0; statics = p.0.1; ospf = p.1.0; rip = p.1.1 }) (λ _. refl)

-- the part of a protocol
abbrev pub branch_of : Proto → Treed → Branch
branch_of Connected t = t.connected
branch_of Static t = t.statics
branch_of Ospf t = t.ospf
branch_of Rip t = t.rip

-- the tree with this part for a protocol
abbrev pub put_branch : Proto → Branch → Treed → Treed
put_branch Connected b t = record { connected = b; statics = t.statics; ospf = t.ospf; rip = t.rip }
put_branch Static b t = record { connected = t.connected; statics = b; ospf = t.ospf; rip = t.rip }
put_branch Ospf b t = record { connected = t.connected; statics = t.statics; ospf = b; rip = t.rip }
put_branch Rip b t = record { connected = t.connected; statics = t.statics; ospf = t.ospf; rip = b }

-- each part is its protocol's
abbrev pub ArePlaced : Treed → Type 0
ArePlaced t = (proto : Proto) → (branch_of proto t).proto ≡ proto

abbrev pub interior_distance : Interior → ℕ
interior_distance r = distance (fib_proto r.proto)

-- the rows of `low`, `dyn` and `int`: at each prefix the row of least distance
abbrev pub low_rows : Treed → Rows Interior
low_rows t = merged interior_distance (org_rows t.connected) (org_rows t.statics)

abbrev pub dyn_rows : Treed → Rows Interior
dyn_rows t = merged interior_distance (org_rows t.ospf) (org_rows t.rip)

abbrev pub int_rows : Treed → Rows Interior
int_rows t = merged interior_distance (low_rows t) (dyn_rows t)

-- where a walk over `int` goes: to its rows
abbrev pub int_candidates : Treed → Candidates
int_candidates t = with_rows (int_rows t)

-- the links of the tree: `org.PROTO`, `org.PROTO.N` into the stage of each loss, `low`, `dyn` and `int`
abbrev pub tree_links : Treed → Links Value
tree_links t (Org proto) = Some (interior_rows (org_rows (branch_of proto t)))
tree_links t (Lost proto n) = option_map interior_rows (rows_above (branch_of proto t).tables.live n (branch_of proto t).tables.deletions)
tree_links t Low = Some (interior_rows (low_rows t))
tree_links t Dyn = Some (interior_rows (dyn_rows t))
tree_links t Int = Some (interior_rows (int_rows t))
tree_links t other = None

-- the link is named as one of the tree's: `org.PROTO.N` of any loss among them
abbrev pub is_tree_link : Link → Bool
is_tree_link (Org proto) = true
is_tree_link (Lost proto n) = true
is_tree_link Low = true
is_tree_link Dyn = true
is_tree_link Int = true
is_tree_link other = false

-- the tree's links beside those of the other parts of the router
abbrev pub beside_tree : Links Value → Treed → Links Value
beside_tree others t link = cond (is_tree_link link) (tree_links t link) (others link)

-- what holds of a tree between two calls
pub record IsTree (t : Treed) : Type 0 where
  pub each : (proto : Proto) → IsBranch (branch_of proto t)
  pub placed : ArePlaced t

-- no lost table is empty
abbrev pub IsFull : Treed → Type 0
IsFull t = (proto : Proto) → NoneEmpty (branch_of proto t).tables.deletions

-- of this protocol at most one is empty, of the others none
pub record IsFullBut (proto : Proto) (t : Treed) : Type 0 where
  pub one : OneEmptyAtMost (branch_of proto t).tables.deletions
  pub others : (other : Proto) → same_proto other proto ≡ false → NoneEmpty (branch_of other t).tables.deletions

-- how many rows all `org.PROTO` have
abbrev pub tree_count : Treed → ℕ
tree_count t = branch_count t.connected + (branch_count t.statics + (branch_count t.ospf + branch_count t.rip))

-- no protocol has made more deletion stages
abbrev pub AreNumbered : ℕ → Treed → Type 0
AreNumbered most t = (proto : Proto) → (branch_of proto t).losses ≤ most

-- the deletion stages, by protocol (connected, static, ospf, rip), the earliest loss first
abbrev pub tree_tasks : Treed → List Task
tree_tasks t = branch_tasks t.connected ++ (branch_tasks t.statics ++ (branch_tasks t.ospf ++ branch_tasks t.rip))
