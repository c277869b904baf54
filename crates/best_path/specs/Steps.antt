-- The decision process of RFC 4271, section 9.1.2.2, with the step that RFC 4456, section 9, adds to it: nine filters, each over the whole
-- list that the one before left.
use Rattle.std.specs.Prelude.{◌≡◌, ◌<◌, ℕ, length, slice_get, Bool, not, ◌&&◌, nat_lt, nat_eq, List, [], ◌∷◌, filter, Option, Some, None, true, false}
use Rattle.std.specs.List.{list_any}
use Rattle.bgp_attr.specs.Routes.{Route}
use Rattle.best_path.specs.declared.candidate.Candidate.{Candidate}
use Rattle.best_path.specs.declared.step.Step.{Step}
use Rattle.best_path.specs.declared.step.Step.TheVariants.{Preference, PathLength, Origin, Med, External, InteriorMetric, Identifier, ClusterCount, Address}
use Rattle.best_path.specs.Keys.{is_local, path_length, origin_rank, neighbour_as, med, is_internal, interior_metric, peer_identifier, identifier, cluster_count, peer_address, candidate_of}
use Rattle.best_path.specs.Places.{first_of}

-- those that no one in the list beats
abbrev pub unbeaten : (Route → Route → Bool) → List Route → List Route
unbeaten beats list = filter (λ other. not (list_any (λ one. beats one other) list)) list

-- those of the lowest key
abbrev pub keep_least : (Route → ℕ) → List Route → List Route
keep_least key list = unbeaten (λ one other. nat_lt (key one) (key other)) list

-- those of the highest key
abbrev pub keep_greatest : (Route → ℕ) → List Route → List Route
keep_greatest key list = unbeaten (λ one other. nat_lt (key other) (key one)) list

-- step 1: those of the highest degree of preference (section 9.1.2)
abbrev pub highest_preference : List Route → List Route
highest_preference list = keep_greatest (λ r. r.pref) list

-- step 2: those of the fewest AS numbers in the path (section 9.1.2.2 a)
abbrev pub shortest_path : List Route → List Route
shortest_path list = keep_least path_length list

-- step 3: those of the lowest ORIGIN (section 9.1.2.2 b)
abbrev pub lowest_origin : List Route → List Route
lowest_origin list = keep_least (λ r. origin_rank r.attrs.origin) list

-- step 4: those for which no other one has the same neighbour AS and a lower MULTI_EXIT_DISC (section 9.1.2.2 c)
abbrev pub lowest_med_within_neighbour_as : List Route → List Route
lowest_med_within_neighbour_as list =
    unbeaten (λ one other. nat_eq (neighbour_as one) (neighbour_as other) && nat_lt (med one) (med other)) list

-- step 5: if one is from an external peer, those from external peers (section 9.1.2.2 d)
abbrev pub external_over_internal : List Route → List Route
external_over_internal list = unbeaten (λ one other. not (is_internal one) && is_internal other) list

-- step 6: those of the lowest metric to the next hop (section 9.1.2.2 e)
abbrev pub lowest_interior_metric : List Route → List Route
lowest_interior_metric list = keep_least interior_metric list

-- step 7: those of the lowest ORIGINATOR_ID, or BGP identifier of the peer where there is none (section 9.1.2.2 f; RFC 4456, section 9)
abbrev pub lowest_identifier : List Route → List Route
lowest_identifier list = keep_least identifier list

-- step 8: those of the shortest CLUSTER_LIST (RFC 4456, section 9)
abbrev pub fewest_clusters : List Route → List Route
fewest_clusters list = keep_least cluster_count list

-- step 9: that from the peer of the lowest address (section 9.1.2.2 g)
abbrev pub lowest_address : List Route → List Route
lowest_address list = keep_least peer_address list

-- what the nine steps leave
abbrev pub left_by_all : List Route → List Route
left_by_all list =
    lowest_address (fewest_clusters (lowest_identifier (lowest_interior_metric (external_over_internal (lowest_med_within_neighbour_as
    (lowest_origin (shortest_path (highest_preference list))))))))

-- the first of the local ones, or of the others where none is local
abbrev pub local_or : List Route → List Route → Option Route
local_or [] others = first_of others
local_or (r ∷ rs) others = Some r

-- the best: a local one if there is one, else what the nine steps leave
abbrev pub pick : List Route → Option Route
pick list = local_or (filter is_local list) (left_by_all list)

-- what step 7 is without route reflectors: those from the peer of the lowest BGP identifier (section 9.1.2.2 f)
abbrev pub lowest_peer_identifier : List Route → List Route
lowest_peer_identifier list = keep_least peer_identifier list

-- what the eight steps of RFC 4271 leave
abbrev pub left_by_eight : List Route → List Route
left_by_eight list =
    lowest_address (lowest_peer_identifier (lowest_interior_metric (external_over_internal (lowest_med_within_neighbour_as
    (lowest_origin (shortest_path (highest_preference list)))))))

-- the best by these eight
abbrev pub pick_by_eight : List Route → Option Route
pick_by_eight list = local_or (filter is_local list) (left_by_eight list)

-- the place is that of the best, and there is none exactly where there is no route
abbrev pub IsPlaceOfBest : List Route → Option ℕ → Type 0
IsPlaceOfBest routes None = routes ≡ []
IsPlaceOfBest routes (Some place) = (place < length routes) × (pick routes ≡ slice_get routes place)

-- one candidate takes another out in this step
abbrev pub beats_by : Step → Candidate → Candidate → Bool
beats_by Preference one other = nat_lt other.pref one.pref
beats_by PathLength one other = nat_lt one.hops other.hops
beats_by Origin one other = nat_lt (origin_rank one.origin) (origin_rank other.origin)
beats_by Med one other = nat_eq one.neighbour_as other.neighbour_as && nat_lt one.med other.med
beats_by External one other = not one.internal && other.internal
beats_by InteriorMetric one other = nat_lt one.igp other.igp
beats_by Identifier one other = nat_lt one.id other.id
beats_by ClusterCount one other = nat_lt one.clusters other.clusters
beats_by Address one other = nat_lt one.addr other.addr

-- what a step keeps
abbrev pub kept_by : Step → List Route → List Route
kept_by step list = unbeaten (λ one other. beats_by step (candidate_of one) (candidate_of other)) list

-- in this step a candidate is as good as each that neither beats it nor is beaten by it: in each step by one key
abbrev pub is_level : Step → Bool
is_level Med = false
is_level step = true
