-- Route reflection, as a law of what is decided and sent (RFC 4456, sections 6, 8 and 10): which peers get a route inside the AS, and who
-- is named on it then. It speaks of what a peer announced and of what another one gets of it, whatever filters and rules lie between.
use Rattle.std.specs.Prelude.{◌≡◌, ◌≢◌, ◌&&◌, ℕ, Bool, true, false, ◌∷◌, Option, Some, None, unwrap_or}
use Rattle.std.specs.FinMap as tables
use Rattle.addr4.specs.Prefixes.{AddressPrefix}
use Rattle.bgp_attr.specs.Attributes.{Attrs}
use Rattle.bgp_attr.specs.Routes.{Route}
use Rattle.bgp_attr.specs.Speakers.{Speaker}
use Rattle.bgp_attr.specs.declared.speaker.Neighbour.{Neighbour}
use Rattle.bgp_attr.specs.Reflections.{not_reflected, has_been_at}
use Rattle.filter_bank.specs.Outgoing.{is_reflected}
use Rattle.event_text.specs.declared.declared.DeclaredPeer.{DeclaredPeer}
use Rattle.event_text.specs.Declarations.{peer_at, IsDeclaration}
use Rattle.live_state.specs.Lives.{LiveState}
use Rattle.live_state.specs.Decided.{best_of, sent_rows}

-- The neighbour is a declared peer, and these are the attributes with which it announced the prefix, still live.
pub record IsReceivedFrom (l : LiveState) (from : Neighbour) (p : AddressPrefix) (attrs : Attrs) : Type 0 where
  pub peer : DeclaredPeer
  pub there : peer_at from.number l.declared.peers ≡ Some peer
  pub words : peer.words ≡ from
  pub live : tables.get (l.routes from.number) p ≡ Some attrs

-- One internal peer announced the route, and another one gets these attributes of it:
pub record IsReflected (me : Speaker) (from to : Neighbour) (row : Route) (sent : Attrs) : Type 0 where
  -- one of the two is a client of this speaker (section 6);
  pub client : is_reflected from to ≡ true
  -- ORIGINATOR_ID is who brought the route into the AS: whom a reflector named before, or else the peer that announced it (section 8);
  pub originator : sent.reflection.originator ≡ Some (unwrap_or row.attrs.reflection.originator from.id)
  -- CLUSTER_LIST has this speaker's cluster in front of those that were received,
  pub clusters : sent.reflection.clusters ≡ me.id ∷ row.attrs.reflection.clusters
  -- where it wasn't, nor was this speaker the originator;
  pub once : has_been_at row.attrs.reflection me.id ≡ false
  -- AS_PATH and NEXT_HOP are as they were received (section 10)
  pub path : sent.path ≡ row.attrs.path
  pub next_hop : sent.next_hop ≡ row.attrs.next_hop

-- an internal peer announced the route, and one gets it
abbrev pub stays_inside : Option Neighbour → Neighbour → Bool
stays_inside None to = false
stays_inside (Some from) to = from.internal && to.internal

-- A peer gets these attributes of a route:
pub record IsPassedTo (me : Speaker) (to : Neighbour) (row : Route) (sent : Attrs) : Type 0 where
  -- the route is of another peer, or this speaker's own;
  pub not_back : (from : Neighbour) → row.from ≡ Some from → from.number ≢ to.number
  -- from one internal peer to another it is reflected;
  pub inside : (from : Neighbour) → row.from ≡ Some from → stays_inside row.from to ≡ true → IsReflected me from to row sent
  -- and nobody is named where an external peer announced it or gets it, nor on this speaker's own
  pub elsewhere : stays_inside row.from to ≡ false → sent.reflection ≡ not_reflected

-- What a peer gets at a prefix is the best route there, as the peer that it is from announced it, passed on.
pub record IsBestAsSent (l : LiveState) (me : Speaker) (to : Neighbour) (p : AddressPrefix) (sent : Attrs) : Type 0 where
  pub row : Route
  pub best : best_of l p ≡ Some row
  pub received : (from : Neighbour) → row.from ≡ Some from → IsReceivedFrom l from p row.attrs
  pub passed : IsPassedTo me to row sent

-- So it is of everything that the decided state has for a declared peer.
abbrev pub ReflectionIsMarked : Type 0
ReflectionIsMarked =
    (l : LiveState) (j : ℕ) (me : Speaker) (to : DeclaredPeer) (p : AddressPrefix) (sent : Attrs)
    → IsDeclaration l.declared → l.declared.speaker ≡ Some me → peer_at j l.declared.peers ≡ Some to
    → sent_rows l.declared.profile me to.words (l.outgoing j) (best_of l) p ≡ Some sent → IsBestAsSent l me to.words p sent
