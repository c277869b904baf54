-- Laws of merged rows, for the crates above.
use Rattle.std.specs.Prelude.{◌≡◌, ◌⊎◌, ◌≤◌, ℕ, Some, None}
use Rattle.addr4.specs.Prefixes.{AddressPrefix}
use Rattle.link_change.specs.Rows.{Rows}
use Rattle.rib_merge.specs.Merging.{merged}

-- A merged row is one side's row.
abbrev pub IsOfOneSide : Type 0 → Type 0
IsOfOneSide R =
    (distance : R → ℕ) (left right : Rows R) (p : AddressPrefix)
    → (merged distance left right p ≡ left p) ⊎ (merged distance left right p ≡ right p)

-- No row of either side has a lesser distance.
abbrev pub IsLeastOfBoth : Type 0 → Type 0
IsLeastOfBoth R =
    (distance : R → ℕ) (left right : Rows R) (p : AddressPrefix) (row other : R) → merged distance left right p ≡ Some row
    → (left p ≡ Some other) ⊎ (right p ≡ Some other) → distance row ≤ distance other

-- There is none only where neither side has a row.
abbrev pub HasARow : Type 0 → Type 0
HasARow R =
    (distance : R → ℕ) (left right : Rows R) (p : AddressPrefix) → merged distance left right p ≡ None
    → (left p ≡ None) × (right p ≡ None)
