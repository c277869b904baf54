-- The live state: what the events alone make of the declarations, the sessions, each peer's live routes and its rules, the
-- interior routes and their losses, and the protocols that are redistributed, whatever work was done or not (RFC 4271, sections 3.1,
-- 3.2 and 6; NSDI 2005, section 5.2).
use Rattle.std.specs.Prelude.{◌≡◌, ℕ, ◌+◌, ◌==◌, Bool, true, false, if◌then◌else◌, List, [], ◌∷◌, Option, Some, None}
use Rattle.std.specs.FinMap as tables
use Rattle.std.specs.FinMap.{FinMap}
use Rattle.addr4.specs.Prefixes.{AddressPrefix, prefix_cmp}
use Rattle.bgp_attr.specs.Attributes.{Attrs}
use Rattle.bgp_wire.specs.declared.message.Message.{Message}
use Rattle.bgp_wire.specs.declared.message.Message.TheVariants as messages
use Rattle.event_text.specs.Event.{Event}
use Rattle.event_text.specs.declared.event.Event.TheVariants.{Whole, Local, Peer, Up, Down, Bgp, FilterIn, FilterOut, RouteAdd, RouteDel, Lose, Redist}
use Rattle.event_text.specs.declared.declared.DeclaredPeer.{DeclaredPeer}
use Rattle.event_text.specs.Declarations.{Declaration, no_declaration, peer_at, with_profile, with_whole, with_speaker, with_peer, with_session, without_session}
use Rattle.policy_rules.specs.Rules.{Rule}
use Rattle.rib_route.specs.declared.Proto.{Proto}
use Rattle.rib_route.specs.Rows.{Interior}
use Rattle.journal_text.specs.Links.{proto_number}
use Rattle.link_change.specs.Rows.{is_empty_map}
use Rattle.live_state.specs.Messages.{Says, changes_of}

-- the routes of a peer: the attributes of each prefix that it announced (RFC 4271, section 3.2)
abbrev pub Routes : Type 0
Routes = FinMap prefix_cmp Attrs

-- the routes of an interior protocol
abbrev pub Interiors : Type 0
Interiors = FinMap prefix_cmp Interior

pub record LiveState : Type 0 where
  pub declared : Declaration
  pub routes : ℕ → Routes
  -- of the incoming filters
  pub rules : ℕ → List Rule
  -- of the outgoing filters
  pub outgoing : ℕ → List Rule
  pub interior : Proto → Interiors
  -- how many losses of each protocol found a route
  pub losses : Proto → ℕ
  -- whether its routes are redistributed into BGP
  pub redistributed : Proto → Bool

abbrev pub first_live : Bool → LiveState
first_live v6 = record { declared = no_declaration v6; routes = λ k. tables.empty; rules = λ k. []; outgoing = λ k. []; interior = λ proto. tables.empty; losses = λ proto. 0; redistributed = λ proto. false }

-- ---- the routes of peers
-- with this route at a prefix, in the place of the one that stood there, or with none (RFC 4271, section 3.1)
abbrev pub with_route : Routes → AddressPrefix → Option Attrs → Routes
with_route routes p None = tables.remove routes p
with_route routes p (Some attrs) = tables.insert routes p attrs

abbrev pub routes_after : Routes → List (AddressPrefix × Option Attrs) → Routes
routes_after routes [] = routes
routes_after routes (c ∷ cs) = routes_after (with_route routes c.0 c.1) cs

-- the routes of one peer become these
abbrev pub with_routes : (ℕ → Routes) → ℕ → Routes → ℕ → Routes
with_routes all k routes j = if j == k then routes else all j

-- a session ends, and its routes with it
abbrev pub ended : LiveState → ℕ → LiveState
ended l k = record l { declared = without_session l.declared k; routes = with_routes l.routes k tables.empty }

-- these changes are made to the routes of a peer
abbrev pub live_fed : LiveState → ℕ → List (AddressPrefix × Option Attrs) → LiveState
live_fed l k changes = record l { routes = with_routes l.routes k (routes_after (l.routes k) changes) }

-- a message came from a peer that is up. A ROUTE-REFRESH changes no route (RFC 2918)
abbrev pub heard : LiveState → ℕ → Message → LiveState
heard l k (messages.Update u) = live_fed l k (changes_of l.declared.profile u)
heard l k messages.Notification = ended l k
heard l k (messages.Notify n) = ended l k
heard l k other = l

-- the rules of one peer become these
abbrev pub with_rules : (ℕ → List Rule) → ℕ → List Rule → ℕ → List Rule
with_rules all k rules j = if j == k then rules else all j

-- ---- the interior routes
abbrev pub same_protocol : Proto → Proto → Bool
same_protocol a b = proto_number a == proto_number b

-- the routes of one protocol become these
abbrev pub with_interior : (Proto → Interiors) → Proto → Interiors → Proto → Interiors
with_interior all proto routes other = if same_protocol other proto then routes else all other

abbrev pub interior_fed : LiveState → Proto → Interiors → LiveState
interior_fed l proto routes = record l { interior = with_interior l.interior proto routes }

-- one protocol has lost routes so many times
abbrev pub with_losses : (Proto → ℕ) → Proto → ℕ → Proto → ℕ
with_losses all proto n other = if same_protocol other proto then n else all other

-- a protocol is lost, and its routes with it, if it has any
abbrev pub interior_lost : LiveState → Proto → LiveState
interior_lost l proto = record l {
  interior = with_interior l.interior proto tables.empty;
  losses = with_losses l.losses proto (if is_empty_map (l.interior proto) then l.losses proto else l.losses proto + 1);
}

-- a protocol's routes are redistributed from now on, or aren't
abbrev pub with_redistributed : (Proto → Bool) → Proto → Bool → Proto → Bool
with_redistributed all proto on other = if same_protocol other proto then on else all other

-- ---- events
abbrev pub HearsIfUp : LiveState → ℕ → DeclaredPeer → List ℕ → Bool → LiveState → Type 0
HearsIfUp l k p octets false l' = l' ≡ l
HearsIfUp l k p octets true l' = (message : Message) × Says l.declared.profile p octets message × (l' ≡ heard l k message)

abbrev pub HearsFrom : LiveState → ℕ → Option DeclaredPeer → List ℕ → LiveState → Type 0
HearsFrom l k None octets l' = ⊥
HearsFrom l k (Some p) octets l' = HearsIfUp l k p octets p.up l'

abbrev pub begun_if_down : LiveState → ℕ → Option DeclaredPeer → LiveState
begun_if_down l k None = l
begun_if_down l k (Some p) = if p.up then l else record l { declared = with_session l.declared k }

abbrev pub ended_if_up : LiveState → ℕ → Option DeclaredPeer → LiveState
ended_if_up l k None = l
ended_if_up l k (Some p) = if p.up then ended l k else l

-- the live state after an event
abbrev pub LiveAfter : LiveState → Event → LiveState → Type 0
LiveAfter l (Whole word) l' = l' ≡ record l { declared = with_profile l.declared (with_whole word l.declared.profile) }
LiveAfter l (Local words) l' = l' ≡ record l { declared = with_speaker l.declared words }
LiveAfter l (Peer k words client) l' = l' ≡ record l { declared = with_peer l.declared k words client }
LiveAfter l (Up k) l' = l' ≡ begun_if_down l k (peer_at k l.declared.peers)
LiveAfter l (Down k) l' = l' ≡ ended_if_up l k (peer_at k l.declared.peers)
LiveAfter l (Bgp k octets) l' = HearsFrom l k (peer_at k l.declared.peers) octets l'
LiveAfter l (FilterIn k rules) l' = l' ≡ record l { rules = with_rules l.rules k rules }
LiveAfter l (FilterOut k rules) l' = l' ≡ record l { outgoing = with_rules l.outgoing k rules }
LiveAfter l (RouteAdd p row) l' = l' ≡ interior_fed l row.proto (tables.insert (l.interior row.proto) p row)
LiveAfter l (RouteDel proto p) l' = l' ≡ interior_fed l proto (tables.remove (l.interior proto) p)
LiveAfter l (Lose proto) l' = l' ≡ interior_lost l proto
LiveAfter l (Redist proto on) l' = l' ≡ record l { redistributed = with_redistributed l.redistributed proto on }
LiveAfter l other l' = l' ≡ l
