-- What route reflectors add to a route (RFC 4456, section 8).
use Rattle.std.specs.Prelude.{ℕ, Bool, false, ◌==◌, ◌||◌, List, [], ◌∷◌, Option, Some, None, unwrap_or}
use Rattle.std.specs.List.{list_any}
use Rattle.std.specs.Option.{option_map_or}
use Rattle.bgp_attr.specs.declared.reflection.Added.{Added}

-- ORIGINATOR_ID, the identifier of the router that brought the route into the AS; and CLUSTER_LIST, the clusters that the route
-- went through, the latest one first. One that isn't there counts as that of no cluster
pub record Reflected : Type 0 where
  pub originator : Option ℕ
  pub clusters : List ℕ

abbrev pub not_reflected : Reflected
not_reflected = record { originator = None; clusters = [] }

abbrev pub added_by : Option Added → Reflected
added_by None = not_reflected
added_by (Some added) = record { originator = added.originator; clusters = added.clusters }

-- who has this identifier brought the route into the AS, or the route went through its cluster
abbrev pub has_been_at : Reflected → ℕ → Bool
has_been_at r id = option_map_or (λ originator. originator == id) r.originator false || list_any (λ cluster. cluster == id) r.clusters

-- reflected once more: the originator is the one who sent the route where none is said, and the cluster stands in front
abbrev pub reflected_by : ℕ → ℕ → Reflected → Reflected
reflected_by sender cluster r = record { originator = Some (unwrap_or r.originator sender); clusters = cluster ∷ r.clusters }
