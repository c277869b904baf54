-- What is decided from the live state alone: the rows of each link, from scratch. The links of a peer are its routes (RFC 4271,
-- section 3.2), those that the incoming filter accepts (section 9.1.1), and of these the ones whose next hop can be reached (section
-- 9.1.2.1); below them all is the best route to each prefix (section 9.1.2), of these and of this speaker's own (section 9.4); those of
-- the interior routes, the routes of each protocol and the ones of least administrative distance; those of the forwarding side, the best
-- routes of external and of internal peers, and what packets are forwarded by (NSDI 2005, section 5.2).
use Rattle.std.specs.Prelude.{ℕ, zero, suc, nat_lt, Bool, true, not, ◌==◌, ◌&&◌, if◌then◌else◌, List, [], ◌∷◌, find, filter_map, Option, Some, None, option_map}
use Rattle.std.specs.List.{list_any, range_with_len}
use Rattle.best_path.specs.Steps.{pick}
use Rattle.std.specs.FinMap as tables
use Rattle.addr4.specs.Prefixes.{AddressPrefix, block}
use Rattle.addr4.specs.Blocks.{width}
use Rattle.bgp_attr.specs.Attributes.{Attrs}
use Rattle.bgp_attr.specs.Routes.{Route}
use Rattle.bgp_attr.specs.Speakers.{Speaker}
use Rattle.bgp_attr.specs.declared.speaker.Profile.{Profile}
use Rattle.bgp_attr.specs.declared.speaker.Neighbour.{Neighbour}
use Rattle.link_change.specs.Rows.{Rows}
use Rattle.policy_rules.specs.Rules.{Rule}
use Rattle.filter_bank.specs.Filtered.{filtered}
use Rattle.filter_bank.specs.Outgoing.{Form, outgoing}
use Rattle.peer_out.specs.Forms.{as_sent}
use Rattle.rib_route.specs.declared.Proto.{Proto}
use Rattle.rib_route.specs.declared.Proto.TheVariants.{Connected, Static, Ospf, Rip}
use Rattle.rib_route.specs.Rows.{Interior}
use Rattle.rib_route.specs.Rows.{External}
use Rattle.rib_route.specs.Rows.{FibRow}
use Rattle.rib_route.specs.Distances.{distance, fib_proto, external_proto}
use Rattle.rib_route.specs.Forwarding.{fib_row}
use Rattle.redist.specs.Local.{local_route}
use Rattle.journal_text.specs.declared.link.Link.{Link}
use Rattle.journal_text.specs.declared.link.Link.TheVariants.{In, Peer, Lost, Filt, Res, Org, Low, Dyn, Int, Red, Best, ReadRib, Ebgp, Ibgp, Ext, Read, Outf, Adv, Fib}
use Rattle.journal_text.specs.Lines.{Value}
use Rattle.journal_text.specs.Walk.{Links}
use Rattle.journal_text.specs.Values.{valued, attrs_rows, route_rows, interior_rows, external_value, fib_rows}
use Rattle.event_text.specs.declared.declared.DeclaredPeer.{DeclaredPeer}
use Rattle.event_text.specs.Declarations.{peer_at}
use Rattle.live_state.specs.Lives.{LiveState, Routes, Interiors}

-- ---- the links of a peer
-- `in.K` of a declared peer has exactly its live routes
abbrev pub live_rows : Option DeclaredPeer → Routes → Option (Rows Attrs)
live_rows None routes = None
live_rows (Some p) routes = Some (tables.get routes)

-- the routes that rules make of a peer's live ones, where they accept them
abbrev pub accepted_rows : Speaker → Neighbour → List Rule → Routes → Rows Route
accepted_rows me peer rules routes p = filtered me peer rules p (tables.get routes p)

-- `filt.K` has what the latest rules make of them, by the words of this speaker and of the peer
abbrev pub judged_rows : Option Speaker → Option DeclaredPeer → List Rule → Routes → Option (Rows Route)
judged_rows None peer rules routes = None
judged_rows (Some me) None rules routes = None
judged_rows (Some me) (Some p) rules routes = Some (accepted_rows me p.words rules routes)

-- ---- the links of the interior routes
-- the administrative distance of a route, which is its protocol's: connected 0, static 1, OSPF 110, RIP 120
abbrev pub distance_of : Interior → ℕ
distance_of r = distance (fib_proto r.proto)

-- of some routes the one of least distance: the first than which none has a lesser one
abbrev pub least_of : List Interior → Option Interior
least_of routes = find (λ r. not (list_any (λ other. nat_lt (distance_of other) (distance_of r)) routes)) routes

-- the live routes of some protocols at a prefix
abbrev pub routes_at : (Proto → Interiors) → List Proto → AddressPrefix → List Interior
routes_at interior protocols p = filter_map (λ proto. tables.get (interior proto) p) protocols

-- at each prefix the one of least distance among them
abbrev pub least_rows : (Proto → Interiors) → List Proto → Rows Interior
least_rows interior protocols p = least_of (routes_at interior protocols p)

-- the protocols whose routes come together in a link, or tell its metrics
abbrev pub origins : Link → List Proto
origins (Org proto) = proto ∷ []
origins Low = Connected ∷ Static ∷ []
origins Dyn = Ospf ∷ Rip ∷ []
origins (In k) = []
origins (Peer k s) = []
origins (Filt k) = []
origins (Lost proto n) = []
origins other = Connected ∷ Static ∷ Ospf ∷ Rip ∷ []

-- ---- next hops
abbrev pub or_else : Option Interior → Option Interior → Option Interior
or_else None other = other
or_else (Some row) other = Some row

-- of the prefixes with at most so many bits that hold the address, the route of the longest that has one
abbrev pub longest_within : Rows Interior → ℕ → ℕ → Option Interior
longest_within rows address zero = rows (block width address 0)
longest_within rows address (suc n) = or_else (rows (block width address (suc n))) (longest_within rows address n)

-- the longest match: the interior route by which the address is reached
abbrev pub longest_match : Rows Interior → ℕ → Option Interior
longest_match rows address = longest_within rows address width

-- a route with the metric of the interior route to its next hop (section 9.1.2.2 e); without one it isn't resolvable
abbrev pub with_metric_of : Route → Option Interior → Option Route
with_metric_of r None = None
with_metric_of r (Some way) = Some (record r { igp = Some way.metric })

abbrev pub resolved_row : Rows Interior → Option Route → Option Route
resolved_row rows None = None
resolved_row rows (Some r) = with_metric_of r (longest_match rows r.attrs.next_hop)

-- `res.K` has those of `filt.K` whose next hop can be reached
abbrev pub resolved_rows : Rows Interior → Rows Route → Rows Route
resolved_rows interior rows p = resolved_row interior (rows p)

-- ---- this speaker's own routes
-- redistribution makes one where the interior route at a prefix is of a protocol that is redistributed (section 9.4)
abbrev pub own_row : Speaker → (Proto → Bool) → Option Interior → Option Route
own_row me redistributed None = None
own_row me redistributed (Some row) = if redistributed row.proto then Some (local_route me) else None

-- `red` has these, where `local` was declared
abbrev pub own_rows : Option Speaker → (Proto → Bool) → Rows Interior → Option (Rows Route)
own_rows None redistributed interior = None
own_rows (Some me) redistributed interior = Some (λ p. own_row me redistributed (interior p))

-- ---- the decision
-- the rows of a link, or none where it isn't live
abbrev pub rows_if_any : Option (Rows Route) → Rows Route
rows_if_any None p = None
rows_if_any (Some rows) p = rows p

-- the routes at a prefix: this speaker's own has number 0, and that of a peer its number, from 1 to 64
abbrev pub routes_of_all : (ℕ → Rows Route) → AddressPrefix → List Route
routes_of_all rows p = filter_map (λ k. rows k p) (range_with_len 0 65)

-- `best` has at each prefix the one that the decision process picks of them
abbrev pub picked_rows : (ℕ → Rows Route) → Rows Route
picked_rows rows p = pick (routes_of_all rows p)

-- these links are live where `local` was declared
abbrev pub since_local : {V : Type 0} → Option Speaker → Rows V → Option (Rows V)
since_local None rows = None
since_local (Some me) rows = Some rows

-- ---- what peers are sent
-- the form in which a peer is sent a route, which is external or internal
abbrev pub sent_to : Profile → Speaker → Bool → Form Attrs
sent_to profile me external = record { v6 = profile.second; made = as_sent profile me external }

-- by the profile, the words of this speaker and of the peer, and by the latest rules of its outgoing filter (sections 9.1.3 and 9.2)
abbrev pub sent_rows : Profile → Speaker → Neighbour → List Rule → Rows Route → Rows Attrs
sent_rows profile me peer rules best p = outgoing (sent_to profile me (not peer.internal)) peer (Some rules) p (best p)

-- the links of a session are live while it is up
abbrev pub in_session : {V : Type 0} → Option Speaker → Option DeclaredPeer → ℕ → (Speaker → Neighbour → Rows V) → Option (Rows V)
in_session (Some me) (Some p) s rows = if p.up && (p.session == s) then Some (rows me p.words) else None
in_session local peer s rows = None

-- ---- the forwarding side
-- what forwarding needs of a route that a peer of this kind sent; nothing of one of this speaker's own
abbrev pub sent_by : (Neighbour → Bool) → ℕ → Option Neighbour → Option External
sent_by kind next_hop None = None
sent_by kind next_hop (Some peer) = if kind peer then Some (record { internal = peer.internal; next_hop = next_hop }) else None

abbrev pub external_row : (Neighbour → Bool) → Option Route → Option External
external_row kind None = None
external_row kind (Some r) = sent_by kind r.attrs.next_hop r.from

abbrev pub external_rows : (Neighbour → Bool) → Rows Route → Rows External
external_rows kind best p = external_row kind (best p)

-- packets go to the gateway of the interior route, or to the next hop itself where that is reached directly
abbrev pub first_router : Option ℕ → ℕ → ℕ
first_router None next_hop = next_hop
first_router (Some gateway) next_hop = gateway

abbrev pub over_interior : External → Option Interior → Option FibRow
over_interior r None = None
over_interior r (Some way) = Some (record { proto = external_proto r; gateway = Some (first_router way.gateway r.next_hop); iface = way.iface })

-- an external route is forwarded by the interior route to its next hop, and not at all without one
abbrev pub reached_row : Rows Interior → Option External → Option FibRow
reached_row interior None = None
reached_row interior (Some r) = over_interior r (longest_match interior r.next_hop)

-- of two rows that of lesser distance
abbrev pub lesser_of : Option FibRow → Option FibRow → Option FibRow
lesser_of None other = other
lesser_of (Some one) None = Some one
lesser_of (Some one) (Some other) = if nat_lt (distance other.proto) (distance one.proto) then Some other else Some one

-- what packets are forwarded by: of the interior and the external route to a prefix that of lesser distance
abbrev pub forwarding_rows : Rows Interior → Rows External → Rows FibRow
forwarding_rows interior external p = lesser_of (option_map fib_row (interior p)) (reached_row interior (external p))

-- ---- what a peer's routes come to behind its filter and its resolver
abbrev pub resolved_of : LiveState → ℕ → Option (Rows Route)
resolved_of l k = option_map (resolved_rows (least_rows l.interior (origins Int))) (judged_rows l.declared.speaker (peer_at k l.declared.peers) (l.rules k) (l.routes k))

-- ---- this speaker's own routes, and the best of all
abbrev pub own_of : LiveState → Option (Rows Route)
own_of l = own_rows l.declared.speaker l.redistributed (least_rows l.interior (origins Red))

abbrev pub candidates_of : LiveState → ℕ → Rows Route
candidates_of l zero = rows_if_any (own_of l)
candidates_of l (suc k) = rows_if_any (resolved_of l (suc k))

abbrev pub best_of : LiveState → Rows Route
best_of l = picked_rows (candidates_of l)

-- the best routes of peers of this kind
abbrev pub external_of : LiveState → (Neighbour → Bool) → Rows External
external_of l kind = external_rows kind (best_of l)

-- ---- each link: no other is live
abbrev pub from_scratch : LiveState → Links Value
from_scratch l (In k) = option_map attrs_rows (live_rows (peer_at k l.declared.peers) (l.routes k))
from_scratch l (Filt k) = option_map route_rows (judged_rows l.declared.speaker (peer_at k l.declared.peers) (l.rules k) (l.routes k))
from_scratch l (Res k) = option_map route_rows (resolved_of l k)
from_scratch l Red = option_map route_rows (own_of l)
from_scratch l Best = option_map route_rows (since_local l.declared.speaker (best_of l))
from_scratch l ReadRib = option_map route_rows (since_local l.declared.speaker (best_of l))
from_scratch l Ebgp = option_map (valued external_value) (since_local l.declared.speaker (external_of l (λ w. not w.internal)))
from_scratch l Ibgp = option_map (valued external_value) (since_local l.declared.speaker (external_of l (λ w. w.internal)))
from_scratch l Ext = option_map (valued external_value) (since_local l.declared.speaker (external_of l (λ w. true)))
from_scratch l (Read j s) = option_map route_rows (in_session l.declared.speaker (peer_at j l.declared.peers) s (λ me w. best_of l))
from_scratch l (Outf j s) = option_map attrs_rows (in_session l.declared.speaker (peer_at j l.declared.peers) s (λ me w. sent_rows l.declared.profile me w (l.outgoing j) (best_of l)))
from_scratch l (Adv j s) = option_map attrs_rows (in_session l.declared.speaker (peer_at j l.declared.peers) s (λ me w. sent_rows l.declared.profile me w (l.outgoing j) (best_of l)))
from_scratch l (Org proto) = option_map interior_rows (since_local l.declared.speaker (tables.get (l.interior proto)))
from_scratch l Low = option_map interior_rows (since_local l.declared.speaker (least_rows l.interior (origins Low)))
from_scratch l Dyn = option_map interior_rows (since_local l.declared.speaker (least_rows l.interior (origins Dyn)))
from_scratch l Int = option_map interior_rows (since_local l.declared.speaker (least_rows l.interior (origins Int)))
from_scratch l Fib = option_map fib_rows (since_local l.declared.speaker (forwarding_rows (least_rows l.interior (origins Fib)) (external_of l (λ w. true))))
from_scratch l other = None
