-- What the decision asks of a route (RFC 4271, section 9.1.2.2; RFC 4456, section 9).
use Rattle.std.specs.Prelude.{ℕ, Bool, false, is_none, unwrap_or, if◌then◌else◌, Option, Some, None, List, length}
use Rattle.std.specs.Option.{option_map_or}
use Rattle.bgp_attr.specs.Paths.{hops, first_as}
use Rattle.bgp_attr.specs.declared.attrs.Origin.{Origin}
use Rattle.bgp_attr.specs.declared.attrs.Origin.TheVariants.{Igp, Egp, Incomplete}
use Rattle.bgp_attr.specs.declared.path.Segment.{Segment}
use Rattle.bgp_attr.specs.declared.speaker.Neighbour.{Neighbour}
use Rattle.bgp_attr.specs.Routes.{Route}
use Rattle.best_path.specs.declared.candidate.Candidate.{Candidate}

-- the route is of this speaker, and came from no peer
abbrev pub is_local : Route → Bool
is_local r = is_none r.from

-- the number of AS numbers in the path, an AS_SET counting 1 (section 9.1.2.2 a)
abbrev pub path_length : Route → ℕ
path_length r = hops r.attrs.path

-- IGP is lower than EGP, and EGP than INCOMPLETE (section 9.1.2.2 b)
abbrev pub origin_rank : Origin → ℕ
origin_rank Igp = 0
origin_rank Egp = 1
origin_rank Incomplete = 2

-- of an external peer's route that peer's AS; of an internal one's the first AS of a leading AS_SEQUENCE, else the local AS,
-- which is that peer's
abbrev pub neighbour_as_from : Option Neighbour → List Segment → ℕ
neighbour_as_from None path = 0
neighbour_as_from (Some peer) path = if peer.internal then unwrap_or (first_as path) peer.asn else peer.asn

-- the neighbour AS (section 9.1.2.2 c)
abbrev pub neighbour_as : Route → ℕ
neighbour_as r = neighbour_as_from r.from r.attrs.path

-- a missing MULTI_EXIT_DISC is the lowest (section 9.1.2.2 c)
abbrev pub med : Route → ℕ
med r = unwrap_or r.med 0

-- the route came from an internal peer (section 9.1.2.2 d)
abbrev pub is_internal : Route → Bool
is_internal r = option_map_or (λ peer. peer.internal) r.from false

-- the metric to the next hop, 0 where it is not known (section 9.1.2.2 e)
abbrev pub interior_metric : Route → ℕ
interior_metric r = unwrap_or r.igp 0

-- the BGP identifier of the peer that it came from (section 9.1.2.2 f)
abbrev pub peer_identifier : Route → ℕ
peer_identifier r = option_map_or (λ peer. peer.id) r.from 0

-- the same, or the ORIGINATOR_ID in its place where there is one (RFC 4456, section 9)
abbrev pub identifier : Route → ℕ
identifier r = option_map_or (λ peer. unwrap_or r.attrs.reflection.originator peer.id) r.from 0

-- how many clusters it went through: the length of the CLUSTER_LIST, 0 where there is none (RFC 4456, section 9)
abbrev pub cluster_count : Route → ℕ
cluster_count r = length r.attrs.reflection.clusters

-- the address of the peer that it came from (section 9.1.2.2 g)
abbrev pub peer_address : Route → ℕ
peer_address r = option_map_or (λ peer. peer.addr) r.from 0

-- what the decision compares of a route
abbrev pub candidate_of : Route → Candidate
candidate_of r = record {
  local = is_local r;
  pref = r.pref;
  hops = path_length r;
  origin = r.attrs.origin;
  neighbour_as = neighbour_as r;
  med = med r;
  internal = is_internal r;
  igp = interior_metric r;
  id = identifier r;
  clusters = cluster_count r;
  addr = peer_address r;
}
