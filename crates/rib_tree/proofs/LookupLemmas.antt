-- What is looked up on the links of a tree.
use Rattle.std.proofs.Common.{◌≡◌, ℕ, Bool, true, false, ◌||◌, cond, Option, Some, None, is_some, refl}
use Rattle.std.specs.Prelude.{nat_lt}
use Rattle.rib_route.specs.Rows.{Interior}
use Rattle.rib_merge.specs.Merging.{row_of_both, merged}
use Rattle.link_change.specs.Rows.{Rows, with_rows, together}
use Rattle.link_change.proofs.RowLemmas.{same_function}
use Rattle.rib_tree.specs.Trees.{interior_distance}

-- ---- the stage of a loss, which the branch names by its own protocol

-- ---- merged rows

one_of_two : (c : Bool) (a b : Interior) → true ≡ is_some (cond c (Some b) (Some a))
one_of_two true a b = refl
one_of_two false a b = refl

either : (distance : Interior → ℕ) (a b : Option Interior) → (is_some a || is_some b) ≡ is_some (row_of_both distance a b)
either distance None b = refl
either distance (Some a) None = refl
either distance (Some a) (Some b) = one_of_two (nat_lt (distance b) (distance a)) a b

-- a walk over both links goes to the merged rows
pub both_are : (left right : Rows Interior) → together (with_rows left) (with_rows right) ≡ with_rows (merged interior_distance left right)
both_are left right = same_function _ _ (λ q. either interior_distance (left q) (right q))

-- ---- values
