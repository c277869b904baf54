-- What is kept of a route that a peer is sent, and the attributes that the peer gets of it.
use Rattle.std.specs.Prelude.{◌≡◌, ◌+◌, ℕ, List, Option, Some, None}
use Rattle.bgp_attr.specs.Attributes.{Attrs}
use Rattle.bgp_attr.specs.declared.path.Segment.{Segment}
use Rattle.bgp_attr.specs.Paths.{times_in_front}
use Rattle.bgp_attr.specs.Reflections.{Reflected, not_reflected, reflected_by}
use Rattle.peer_out.specs.declared.terms.Terms as declared
use Rattle.peer_out.specs.declared.terms.Terms.TheVariants.{External, Internal, Inside}

-- by an address's number, whatever the family
abbrev pub Terms : Type 0
Terms = declared.Terms ℕ

abbrev pub path_by : Terms → List Segment → List Segment
path_by (External outside) path = times_in_front (1 + outside.prepend) outside.asn path
path_by (Internal pref) path = path
path_by (Inside passed) path = path

abbrev pub hop_by : Terms → ℕ → ℕ
hop_by (External outside) next_hop = outside.addr
hop_by (Internal pref) next_hop = next_hop
hop_by (Inside passed) next_hop = next_hop

abbrev pub pref_by : Terms → Option ℕ
pref_by (External outside) = None
pref_by (Internal pref) = Some pref
pref_by (Inside passed) = Some passed.pref

abbrev pub reflection_by : Terms → Reflected → Reflected
reflection_by (External outside) r = not_reflected
reflection_by (Internal pref) r = not_reflected
reflection_by (Inside passed) r = reflected_by passed.sender passed.cluster r

-- of a route with this MULTI_EXIT_DISC and these attributes; `SentRoute::new` says that they are those of `sent_form`
abbrev pub form_by : Terms → Option ℕ → Attrs → Attrs
form_by terms med attrs = record {
  origin = attrs.origin;
  path = path_by terms attrs.path;
  next_hop = hop_by terms attrs.next_hop;
  med = med;
  local_pref = pref_by terms;
  atomic = attrs.atomic;
  aggregator = attrs.aggregator;
  reflection = reflection_by terms attrs.reflection;
  unrecognized = attrs.unrecognized;
}

-- what the kind of peer decides is equal: path, next hop, LOCAL_PREF and what reflectors add
pub record HaveOneWay (terms : Terms) (attrs : Attrs) (other : Terms) (others : Attrs) : Type 0 where
  pub path : path_by terms attrs.path ≡ path_by other others.path
  pub next_hop : hop_by terms attrs.next_hop ≡ hop_by other others.next_hop
  pub local_pref : pref_by terms ≡ pref_by other
  pub reflection : reflection_by terms attrs.reflection ≡ reflection_by other others.reflection

-- and so is what every peer gets as it is
pub record HaveOneRest (attrs others : Attrs) : Type 0 where
  pub origin : attrs.origin ≡ others.origin
  pub atomic : attrs.atomic ≡ others.atomic
  pub aggregator : attrs.aggregator ≡ others.aggregator
  pub unrecognized : attrs.unrecognized ≡ others.unrecognized
