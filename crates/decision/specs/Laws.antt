-- Laws of the best routes.
use Rattle.std.specs.Prelude.{◌≡◌, ◌<◌, ℕ, true, false, Some, None, IsSome}
use Rattle.std.specs.FinMap as tables
use Rattle.std.specs.FinMap.{FinMap}
use Rattle.addr4.specs.Prefixes.{AddressPrefix, prefix_cmp}
use Rattle.bgp_attr.specs.Routes.{Route}
use Rattle.best_path.specs.Steps.{pick}
use Rattle.decision.specs.Branches.{AllRows, routes_below, best_rows}
use Rattle.decision.specs.Contests.{Contest, counted, Counts}
use Rattle.link_change.specs.Rows.{Candidates}

-- the best is the pick of the branches' routes
abbrev pub BestIsPicked : Type 0
BestIsPicked = (rows : AllRows) (p : AddressPrefix) → best_rows rows p ≡ pick (routes_below 65 rows p)

-- it is some branch's row
abbrev pub BestIsABranchs : Type 0
BestIsABranchs =
    (rows : AllRows) (p : AddressPrefix) (route : Route) → best_rows rows p ≡ Some route → (b : ℕ) × (b < 65) × (rows b p ≡ Some route)

-- there is none only where no branch has a row
abbrev pub NoBestOnlyWithoutRoutes : Type 0
NoBestOnlyWithoutRoutes = (rows : AllRows) (p : AddressPrefix) → best_rows rows p ≡ None → (b : ℕ) → b < 65 → rows b p ≡ None

-- where all branches have the same rows at a prefix, the same route is the best there
abbrev pub BestIsOfItsPrefix : Type 0
BestIsOfItsPrefix =
    (rows other : AllRows) (p : AddressPrefix) → ((b : ℕ) → b < 65 → rows b p ≡ other b p) → best_rows rows p ≡ best_rows other p

-- where no branch is counted at a prefix none has a candidate there
abbrev pub NoCandidateWhereNoneIsCounted : Type 0
NoCandidateWhereNoneIsCounted = (candidates : ℕ → Candidates) (p : AddressPrefix) → counted candidates p ≡ 0 → (b : ℕ) → b < 65 → candidates b p ≡ false

-- where a branch has a candidate something is known
abbrev pub SomethingIsKnown : Type 0
SomethingIsKnown =
    (contests : FinMap prefix_cmp Contest) (candidates : ℕ → Candidates) (p : AddressPrefix) (b : ℕ) → b < 65 → candidates b p ≡ true → Counts contests candidates
    → IsSome (tables.get contests p)
