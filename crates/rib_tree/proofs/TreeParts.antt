-- A tree with another branch for one protocol.
use Rattle.std.proofs.Common.{◌≡◌, cond, length, Option, None, Some, refl, ◌∙◌}
use Rattle.addr4.specs.Prefixes.{AddressPrefix}
use Rattle.rib_route.specs.declared.Proto.{Proto}
use Rattle.rib_route.specs.declared.Proto.TheVariants.{Connected, Static, Ospf, Rip}
use Rattle.rib_route.specs.Rows.{Interior}
use Rattle.rib_tree.specs.Branches.{Branch}
use Rattle.loss_chain.specs.Owners.{same_proto}
use Rattle.loss_chain.specs.Steps.{without}
use Rattle.loss_chain.proofs.TableLemmas.{few_map}
use Rattle.rib_tree.specs.BranchSteps.{welded_branch, fed_branch}
use Rattle.rib_tree.specs.Trees.{Treed, branch_of, put_branch}
use Rattle.rib_tree.specs.Steps.{welded_tree}
use Rattle.rib_tree.proofs.BranchLemmas.{put_each}

-- an empty stage of the branch that was put goes
pub welded_put : (proto : Proto) (b : Branch) (t : Treed) → welded_tree proto (put_branch proto b t) ≡ put_branch proto (welded_branch b) t
welded_put Connected b t = refl
welded_put Static b t = refl
welded_put Ospf b t = refl
welded_put Rip b t = refl

-- what is seen of each branch, where one was put
pub put_seen : {A : Type 0} (f : Branch → A) (proto other : Proto) (b : Branch) (t : Treed) → f (branch_of other (put_branch proto b t)) ≡ cond (same_proto other proto) (f b) (f (branch_of other t))
put_seen f Connected Connected b t = refl
put_seen f Static Static b t = refl
put_seen f Ospf Ospf b t = refl
put_seen f Rip Rip b t = refl
put_seen f proto other b t = refl

-- what holds of the branch that was put, and of the others
pub put_all : (P : Branch → Type 0) (proto : Proto) (b : Branch) (t : Treed) → P b → ((other : Proto) → P (branch_of other t)) → (other : Proto) → P (branch_of other (put_branch proto b t))
put_all P proto b t own each other = put_each (λ _ x. P x) proto other b t own (λ k _. each k)

-- what the branch that was put has as the one before
pub put_kept : {A : Type 0} (f : Branch → A) (proto : Proto) (b : Branch) (t : Treed) → f b ≡ f (branch_of proto t) → (other : Proto) → f (branch_of other (put_branch proto b t)) ≡ f (branch_of other t)
put_kept f proto b t same other = put_seen f proto other b t ∙ by proto other same
  where
    by : (proto other : Proto) → f b ≡ f (branch_of proto t) → cond (same_proto other proto) (f b) (f (branch_of other t)) ≡ f (branch_of other t)
    by Connected Connected same = same
    by Static Static same = same
    by Ospf Ospf same = same
    by Rip Rip same = same
    by a o same = refl

-- ---- the stages of a branch
-- as many after a change of a route
pub few_fed : (b : Branch) (p : AddressPrefix) (new : Option Interior) → length (fed_branch b p new).tables.deletions ≡ length b.tables.deletions
few_fed b p None = refl
few_fed b p (Some row) = few_map (without p) b.tables.deletions
