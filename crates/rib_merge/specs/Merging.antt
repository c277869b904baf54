-- Merged rows, and what a merge makes of changes (NSDI 2005, section 5.2).
use Rattle.std.specs.Prelude.{◌≡◌, ℕ, nat_lt, if◌then◌else◌, Option, Some, None}
use Rattle.addr4.specs.Prefixes.{AddressPrefix}
use Rattle.link_change.specs.Rows.{Rows}
use Rattle.link_change.specs.Changes.{IsSent}
use Rattle.link_change.specs.Changes.{Change}
use Rattle.rib_merge.specs.declared.merge.Side.{Side}
use Rattle.rib_merge.specs.declared.merge.Side.TheVariants.{Left, Right}

module _ {R : Type 0} (distance : R → ℕ) where
  -- the row of lesser distance, and the left one where both distances are equal
  abbrev pub row_of_both : Option R → Option R → Option R
  row_of_both None right = right
  row_of_both (Some a) None = Some a
  row_of_both (Some a) (Some b) = if nat_lt (distance b) (distance a) then Some b else Some a

  -- at each prefix the row of lesser distance
  abbrev pub merged : Rows R → Rows R → Rows R
  merged left right q = row_of_both (left q) (right q)

  -- the same, of one side's own row and the other side's
  abbrev pub row_on : Side → Option R → Option R → Option R
  row_on Left own other = row_of_both own other
  row_on Right own other = row_of_both other own

  abbrev pub merged_on : Side → Rows R → Rows R → Rows R
  merged_on side own others q = row_on side (own q) (others q)

  -- where the change that comes in leads from one side's rows to new ones, what goes out leads from the merged rows to the
  -- new ones, over any rows of the other side that are this row at its prefix
  abbrev pub MergesOn : Side → Change R → Option R → Option (Change R) → Type 0
  MergesOn side change other result =
      (own now others : Rows R) (p : AddressPrefix) → others change.prefix ≡ other → IsSent own now p (Some change)
      → IsSent (merged_on side own others) (merged_on side now others) p result
