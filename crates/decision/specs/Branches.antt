-- The rows of all branches, the best of them, and what the decision makes of a change.
use Rattle.std.specs.Prelude.{◌≡◌, ℕ, List, Option, Some, ◌≢◌}
use Rattle.std.specs.List.{filter_map, range_with_len, list_any}
use Rattle.addr4.specs.Prefixes.{AddressPrefix}
use Rattle.link_change.specs.Rows.{Rows, Candidates}
use Rattle.link_change.specs.Changes.{IsSent}
use Rattle.link_change.specs.Changes.{Change}
use Rattle.bgp_attr.specs.Routes.{Route}
use Rattle.best_path.specs.Steps.{pick}

-- the rows of each branch, by its number
abbrev pub AllRows : Type 0
AllRows = ℕ → Rows Route

-- the routes that the branches below n have at a prefix, in the order of branches
abbrev pub routes_below : ℕ → AllRows → AddressPrefix → List Route
routes_below n rows q = filter_map (λ b. rows b q) (range_with_len 0 n)

-- at each prefix the route that the decision process picks of those of all branches, 0 to 64
unfoldable pub best_rows : AllRows → Rows Route
best_rows rows q = pick (routes_below 65 rows q)

-- the candidates of the branches below n together
abbrev pub candidates_below : ℕ → (ℕ → Candidates) → Candidates
candidates_below n candidates q = list_any (λ b. candidates b q) (range_with_len 0 n)

-- those of all branches, 0 to 64
unfoldable pub best_candidates : (ℕ → Candidates) → Candidates
best_candidates candidates = candidates_below 65 candidates

-- all branches but this one keep their rows
abbrev pub OthersStay : ℕ → AllRows → AllRows → Type 0
OthersStay branch before now = (b : ℕ) → b ≢ branch → before b ≡ now b

-- where the change leads from the branch's old rows to those that it has now, and all other branches stay, what goes out leads
-- from the best rows over the old branches to those over the branches now
abbrev pub Decides : ℕ → AllRows → Change Route → Option (Change Route) → Type 0
Decides branch now change result =
    (before : AllRows) (p : AddressPrefix) → OthersStay branch before now → IsSent (before branch) (now branch) p (Some change)
    → IsSent (best_rows before) (best_rows now) p result
