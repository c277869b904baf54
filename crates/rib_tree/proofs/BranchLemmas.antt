-- A tree with another branch for one protocol.
use Rattle.std.proofs.Common.{◌≡◌, true, false, cond, refl, sym, ap, subst, ◌∙◌}
use Rattle.rib_route.specs.declared.Proto.{Proto}
use Rattle.rib_route.specs.declared.Proto.TheVariants.{Connected, Static, Ospf, Rip}
use Rattle.rib_route.specs.Rows.{Interior}
use Rattle.link_change.specs.Rows.{Rows}
use Rattle.rib_merge.specs.Merging.{merged}
use Rattle.rib_tree.specs.Branches.{Branch, org_rows, IsBranch}
use Rattle.loss_chain.specs.Owners.{same_proto}
use Rattle.loss_chain.specs.Tables.{NoneEmpty, OneEmptyAtMost}
use Rattle.loss_chain.proofs.OwnerLemmas.{proto_itself}
use Rattle.rib_tree.specs.Trees.{Treed, branch_of, put_branch, IsTree, IsFull, IsFullBut, low_rows, dyn_rows, int_rows, interior_distance}
use Rattle.rib_tree.specs.Merges.{rows_into}

pub put_own : (proto : Proto) (b : Branch) (t : Treed) → branch_of proto (put_branch proto b t) ≡ b
put_own Connected b t = refl
put_own Static b t = refl
put_own Ospf b t = refl
put_own Rip b t = refl

pub put_same : (proto : Proto) (t : Treed) → put_branch proto (branch_of proto t) t ≡ t
put_same Connected t = refl
put_same Static t = refl
put_same Ospf t = refl
put_same Rip t = refl

-- what is chosen by the protocol, of one branch or of those in a tree, is that of the tree with this branch
pub chosen : {A : Type 0} (f : Branch → A) (x : A) (proto other : Proto) (b : Branch) (t : Treed)
    → cond (same_proto other proto) (cond (same_proto other proto) (f b) x) (f (branch_of other t)) ≡ f (branch_of other (put_branch proto b t))
chosen f x Connected Connected b t = refl
chosen f x Connected other b t = refl
chosen f x Static Static b t = refl
chosen f x Static other b t = refl
chosen f x Ospf Ospf b t = refl
chosen f x Ospf other b t = refl
chosen f x Rip Rip b t = refl
chosen f x Rip other b t = refl

-- what holds of the branch, and of the others in a tree
pub put_each : (P : Proto → Branch → Type 0) (proto other : Proto) (b : Branch) (t : Treed) → P proto b → ((k : Proto) → same_proto k proto ≡ false → P k (branch_of k t)) → P other (branch_of other (put_branch proto b t))
put_each P Connected Connected b t own each = own
put_each P Connected other b t own each = each other refl
put_each P Static Static b t own each = own
put_each P Static other b t own each = each other refl
put_each P Ospf Ospf b t own each = own
put_each P Ospf other b t own each = each other refl
put_each P Rip Rip b t own each = own
put_each P Rip other b t own each = each other refl

pub tree_put : (proto : Proto) (b : Branch) (t : Treed) → IsTree t → IsBranch b → b.proto ≡ proto → IsTree (put_branch proto b t)
tree_put proto b t tree branch same = record {
  each = λ other. put_each (λ k x. IsBranch x) proto other b t branch (λ k _. tree.each k);
  placed = λ other. put_each (λ k x. x.proto ≡ k) proto other b t same (λ k _. tree.placed k);
}

pub full_put : (proto : Proto) (b : Branch) (t : Treed) → IsFull t → NoneEmpty b.tables.deletions → IsFull (put_branch proto b t)
full_put proto b t full none other = put_each (λ k x. NoneEmpty x.tables.deletions) proto other b t none (λ k _. full k)

pub full_but_put : (proto : Proto) (b : Branch) (t : Treed) → IsFull t → OneEmptyAtMost b.tables.deletions → IsFullBut proto (put_branch proto b t)
full_but_put proto b t full one = record {
  one = subst (λ (x : Branch). OneEmptyAtMost x.tables.deletions) (sym (put_own proto b t)) one;
  others = λ other. put_each (λ k x. same_proto k proto ≡ false → NoneEmpty x.tables.deletions) proto other b t (λ not_same. absurd (let clash : true ≡ false = sym (proto_itself proto) ∙ not_same in cc)) (λ k _ _. full k);
}

-- where this protocol's one is none too, all are full
pub full_again : (proto : Proto) (b : Branch) (t : Treed) → IsFullBut proto t → NoneEmpty b.tables.deletions → IsFull (put_branch proto b t)
full_again proto b t but none other = put_each (λ k x. NoneEmpty x.tables.deletions) proto other b t none but.others

-- ---- where the rows of a protocol's link stay, those below do

pub into_kept : (proto : Proto) (b : Branch) (t : Treed) → org_rows b ≡ org_rows (branch_of proto t) → rows_into proto (put_branch proto b t) ≡ rows_into proto t
into_kept Connected b t same = ap (λ (r : Rows Interior). merged interior_distance r (org_rows t.statics)) same
into_kept Static b t same = ap (λ (r : Rows Interior). merged interior_distance (org_rows t.connected) r) same
into_kept Ospf b t same = ap (λ (r : Rows Interior). merged interior_distance r (org_rows t.rip)) same
into_kept Rip b t same = ap (λ (r : Rows Interior). merged interior_distance (org_rows t.ospf) r) same

-- where those of the merged link stay, those of `int` do
pub int_kept : (proto : Proto) (b : Branch) (t : Treed) → rows_into proto (put_branch proto b t) ≡ rows_into proto t → int_rows (put_branch proto b t) ≡ int_rows t
int_kept Connected b t same = ap (λ (r : Rows Interior). merged interior_distance r (dyn_rows t)) same
int_kept Static b t same = ap (λ (r : Rows Interior). merged interior_distance r (dyn_rows t)) same
int_kept Ospf b t same = ap (λ (r : Rows Interior). merged interior_distance (low_rows t) r) same
int_kept Rip b t same = ap (λ (r : Rows Interior). merged interior_distance (low_rows t) r) same

pub rows_kept : (proto : Proto) (b : Branch) (t : Treed) → org_rows b ≡ org_rows (branch_of proto t) → int_rows (put_branch proto b t) ≡ int_rows t
rows_kept proto b t same = int_kept proto b t (into_kept proto b t same)
