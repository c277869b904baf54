-- Laws of the decision.
use Rattle.std.specs.Prelude.{◌≡◌, ◌≢◌, ◌≤◌, false, List, [], ◌∷◌, length, filter, Contains, All, AllPairs, IsPermutation, Some, None}
use Rattle.bgp_attr.specs.Reflections.{not_reflected}
use Rattle.bgp_attr.specs.Routes.{Route}
use Rattle.best_path.specs.Keys.{is_local, peer_address}
use Rattle.best_path.specs.Steps.{left_by_all, pick, left_by_eight, pick_by_eight}

-- at most one is local
abbrev pub OneLocal : List Route → Type 0
OneLocal list = length (filter is_local list) ≤ 1

-- no two routes are of peers with the same address
abbrev pub PeersDiffer : List Route → Type 0
PeersDiffer list =
    AllPairs (λ one other. is_local one ≡ false → is_local other ≡ false → peer_address one ≢ peer_address other) list

-- the best is one of the list
abbrev pub PickIsOneOfThem : Type 0
PickIsOneOfThem = (list : List Route) (best : Route) → pick list ≡ Some best → Contains list best

-- there is a best wherever there is a route
abbrev pub NoneOnlyOfNothing : Type 0
NoneOnlyOfNothing = (list : List Route) → pick list ≡ None → list ≡ []

-- one route is its own best
abbrev pub OneIsItsOwnBest : Type 0
OneIsItsOwnBest = (one : Route) → pick (one ∷ []) ≡ Some one

-- of peers' routes the nine steps leave at most one
abbrev pub AtMostOneIsLeft : Type 0
AtMostOneIsLeft = (list : List Route) → filter is_local list ≡ [] → PeersDiffer list → length (left_by_all list) ≤ 1

-- the order of the list does not matter
abbrev pub OrderDoesNotMatter : Type 0
OrderDoesNotMatter =
    (list other : List Route) → OneLocal list → PeersDiffer list → IsPermutation list other → pick list ≡ pick other

-- no route has an ORIGINATOR_ID or a CLUSTER_LIST
abbrev pub NoneIsReflected : List Route → Type 0
NoneIsReflected list = All (λ r. r.attrs.reflection ≡ not_reflected) list

-- there the nine steps leave what the eight of RFC 4271 leave
abbrev pub EightStepsLeaveTheSame : Type 0
EightStepsLeaveTheSame = (list : List Route) → NoneIsReflected list → left_by_all list ≡ left_by_eight list

-- and so the best is the one that RFC 4271 alone picks
abbrev pub EightStepsPickTheSame : Type 0
EightStepsPickTheSame = (list : List Route) → NoneIsReflected list → pick list ≡ pick_by_eight list
