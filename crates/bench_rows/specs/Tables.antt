-- The table of a branch, and its rows.
use Rattle.std.specs.Prelude.{◌≡◌, ◌≢◌, ℕ, nat_lt, if◌then◌else◌, List, slice_get, Option, Some, None, false}
use Rattle.std.specs.FinMap as map
use Rattle.std.specs.FinMap.{FinMap}
use Rattle.addr4.specs.Prefixes.{AddressPrefix, prefix_cmp}
use Rattle.link_change.specs.Rows.{Rows, Candidates, no_rows, with_row, with_rows}
use Rattle.decision.specs.Branches.{AllRows}
use Rattle.decision.specs.Contests.{Contest, Knows, Counts}
use Rattle.safe_table.specs.Tables.{Rows as Contents}
use Rattle.bgp_attr.specs.Routes.{Route}

abbrev pub table_at : List (Contents Route) → ℕ → Option (Contents Route)
table_at tables b = if nat_lt b 65 then slice_get tables b else None

abbrev pub rows_of : Option (Contents Route) → Rows Route
rows_of None = no_rows
rows_of (Some contents) = map.get contents.rows

-- the rows of each branch
abbrev pub rows_in : List (Contents Route) → AllRows
rows_in tables b = rows_of (table_at tables b)

-- a walk goes to the prefixes that have rows
abbrev pub candidates_in : AllRows → ℕ → Candidates
candidates_in rows b = with_rows (rows b)

-- and to none beside them
abbrev pub no_candidates : Candidates
no_candidates q = false

-- a branch's row at a prefix was this one, and is that one from now on; all others stay
pub record Sets (branch : ℕ) (p : AddressPrefix) (row before : Option Route) (old new : AllRows) : Type 0 where
  pub was : before ≡ old branch p
  pub is : new branch ≡ with_row (old branch) p row
  pub others : (b : ℕ) → b ≢ branch → old b ≡ new b

-- the state knows the branches' rows and counts them
pub record Informed (contests : FinMap prefix_cmp Contest) (rows : AllRows) : Type 0 where
  pub knows : Knows contests rows
  pub counts : Counts contests (candidates_in rows)
