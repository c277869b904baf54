-- The incoming filter of a peer (RFC 4271, sections 5.1.3 and 9.1.1; RFC 4456, section 8): the route that a peer's attributes make, where it is accepted.
use Rattle.std.specs.Prelude.{ℕ, ◌==◌, ◌||◌, cond, Bool, true, false, List, Option, Some, None}
use Rattle.addr4.specs.Prefixes.{AddressPrefix}
use Rattle.bgp_attr.specs.Attributes.{Attrs}
use Rattle.bgp_attr.specs.Routes.{Route}
use Rattle.bgp_attr.specs.Speakers.{Speaker}
use Rattle.bgp_attr.specs.declared.speaker.Neighbour.{Neighbour}
use Rattle.bgp_attr.specs.Reflections.{has_been_at}
use Rattle.link_change.specs.Rows.{Rows}
use Rattle.link_change.specs.Changes.{Change}
use Rattle.policy_rules.specs.Rules.{Rule}
use Rattle.policy_rules.specs.Verdicts.{has_as, judged_by}
use Rattle.pass_core.specs.Passed.{Passed}
use Rattle.pass_core.specs.Turns as turns

-- the next hop of a route
abbrev pub route_hop : Route → ℕ
route_hop r = r.attrs.next_hop

-- the degree of preference before any rule: LOCAL_PREF of an internal peer's route, and 100 where it has none or the peer is
-- external
abbrev pub first_pref : Bool → Option ℕ → ℕ
first_pref true (Some n) = n
first_pref true None = 100
first_pref false local_pref = 100

-- the route before any rule
abbrev pub first_route : Neighbour → Attrs → Route
first_route peer attrs = record {
  attrs = attrs;
  pref = first_pref peer.internal attrs.local_pref;
  med = attrs.med;
  prepend = 0;
  igp = None;
  from = Some peer;
}

-- this speaker has the route already: the local AS is in the path, or reflectors say that this speaker brought the route into the AS
-- or that it went through this speaker's cluster
abbrev pub has_been_here : Speaker → Attrs → Bool
has_been_here me attrs = has_as attrs.path me.asn || has_been_at attrs.reflection me.id

-- the route has been here, or this speaker would forward to itself: the next hop is the local address
abbrev pub is_own : Speaker → Attrs → Bool
is_own me attrs = has_been_here me attrs || attrs.next_hop == me.addr

-- what the filter makes of the attributes at a prefix, by rules
abbrev pub filtered : Speaker → Neighbour → List Rule → AddressPrefix → Option Attrs → Option Route
filtered me peer rules p None = None
filtered me peer rules p (Some attrs) = cond (is_own me attrs) None (judged_by rules p (first_route peer attrs))

-- the rows of the link below the filter, where these rules hold everywhere
abbrev pub filtered_rows : Speaker → Neighbour → List Rule → Rows Attrs → Rows Route
filtered_rows me peer rules upper = turns.rows_by (filtered me peer) rules upper

-- the rows of the link below: at each prefix by the rules that hold there
abbrev pub passed_rows : Speaker → Neighbour → Passed (List Rule) → Rows Attrs → Rows Route
passed_rows me peer pass upper = turns.passed_rows (filtered me peer) pass upper

-- where the change that comes in leads from the rows above to new ones, what goes out leads from the rows below to the new ones there
abbrev pub FiltersOn : Speaker → Neighbour → Passed (List Rule) → Change Attrs → Option (Change Route) → Type 0
FiltersOn me peer pass change result = turns.IsPassedOn (filtered me peer) pass change result
