-- The first of a list, and its place.
use Rattle.std.specs.Prelude.{◌≡◌, ◌<◌, ℕ, List, [], ◌∷◌, length, map, filter, slice_get, Option, Some, None}
use Rattle.bgp_attr.specs.Routes.{Route}
use Rattle.best_path.specs.declared.candidate.Candidate.{Candidate}
use Rattle.best_path.specs.Keys.{is_local, candidate_of}

abbrev pub first_of : {X : Type 0} → List X → Option X
first_of [] = None
first_of (x ∷ xs) = Some x

-- the place is that of the first of some of the list, and there is none where they are none
abbrev pub IsPlaceOfFirst : {X : Type 0} → List X → List X → Option ℕ → Type 0
IsPlaceOfFirst list some None = some ≡ []
IsPlaceOfFirst list some (Some place) = (place < length list) × (first_of some ≡ slice_get list place)

-- the same of some of any routes whose candidates these are
abbrev pub FindsFirst : (List Route → List Route) → List Candidate → Option ℕ → Type 0
FindsFirst some candidates result =
    (routes : List Route) → map candidate_of routes ≡ candidates → IsPlaceOfFirst routes (some routes) result

abbrev pub those_local : List Route → List Route
those_local routes = filter is_local routes
