-- How many rows the tables have after turns, welds and losses.
use Rattle.std.proofs.Common.{◌≡◌, ℕ, ◌+◌, arith}
use Rattle.rib_route.specs.declared.Proto.{Proto}
use Rattle.rib_route.specs.declared.Proto.TheVariants.{Connected, Static, Ospf, Rip}
use Rattle.loss_chain.proofs.TurnLemmas.{turn_takes_row as takes_row, weld_keeps_rows as weld_keeps, loss_keeps_rows as loss_keeps}
use Rattle.rib_tree.specs.Branches.{Branch, branch_count}
use Rattle.rib_tree.specs.BranchSteps.{swept_branch, welded_branch, lost_branch}
use Rattle.rib_tree.specs.Trees.{Treed, branch_of, put_branch, tree_count}
use Rattle.rib_tree.specs.Laws.{TurnsTakeRows, WeldsKeepRows, LossesKeepRows}

count_put : (proto : Proto) (b : Branch) (t : Treed) (k : ℕ) → branch_count b + k ≡ branch_count (branch_of proto t) → tree_count (put_branch proto b t) + k ≡ tree_count t
count_put Connected b t k e = omega (arith, e)
count_put Static b t k e = omega (arith, e)
count_put Ospf b t k e = omega (arith, e)
count_put Rip b t k e = omega (arith, e)

count_same : (proto : Proto) (b : Branch) (t : Treed) → branch_count b ≡ branch_count (branch_of proto t) → tree_count (put_branch proto b t) ≡ tree_count t
count_same proto b t e = let all = count_put proto b t 0 (omega (arith, e)) in omega (arith, all)

pub turn_takes_row : TurnsTakeRows
turn_takes_row t proto n p table row tree stands at =
    let b = branch_of proto t in
    count_put proto (swept_branch n p b) t 1 (takes_row b.tables n p table row (tree.each proto).chain stands at)

pub weld_keeps_rows : WeldsKeepRows
weld_keeps_rows t proto = let b = branch_of proto t in count_same proto (welded_branch b) t (weld_keeps b.tables)

pub loss_keeps_rows : LossesKeepRows
loss_keeps_rows t proto = let b = branch_of proto t in count_same proto (lost_branch b) t (loss_keeps (b.losses + 1) b.tables)
