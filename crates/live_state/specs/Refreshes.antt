-- What a peer asks for by a ROUTE-REFRESH, and what it is told then (RFC 2918).
use Rattle.std.specs.Prelude.{◌≡◌, ℕ, Bool, true, List, Contains, Some}
use Rattle.addr4.specs.Prefixes.{AddressPrefix}
use Rattle.bgp_attr.specs.Attributes.{Attrs}
use Rattle.bgp_attr.specs.declared.speaker.Profile.{Profile}
use Rattle.bgp_wire.specs.declared.message.RouteRefresh.{RouteRefresh}
use Rattle.bgp_wire.specs.declared.message.Message.TheVariants.{Refresh}
use Rattle.bgp_wire.specs.Grammar.{is_served}
use Rattle.bgp_wire.specs.Readable.{announcing}
use Rattle.journal_text.specs.Lines.{Line}
use Rattle.journal_text.specs.declared.line.Line.TheVariants.{Out}
use Rattle.event_text.specs.Event.{Event}
use Rattle.event_text.specs.declared.event.Event.TheVariants.{Bgp}
use Rattle.event_text.specs.declared.declared.DeclaredPeer.{DeclaredPeer}
use Rattle.event_text.specs.Declarations.{Declaration, peer_at}
use Rattle.peer_out.specs.Changes.{IsReadAs}
use Rattle.live_state.specs.Messages.{Says}

-- The event is a message of peer k, which is up, that asks for all unicast routes of this network once more.
pub record AsksAgain (d : Declaration) (event : Event) (k : ℕ) (p : DeclaredPeer) : Type 0 where
  pub octets : List ℕ
  pub request : RouteRefresh
  pub message : event ≡ Bgp k octets
  pub there : peer_at k d.peers ≡ Some p
  pub up : p.up ≡ true
  pub says : Says d.profile p octets (Refresh request)
  pub served : is_served d.profile.second request ≡ true

-- One of these lines is an UPDATE to peer j, which is external or internal, that announces the prefix with these attributes; the peer reads
-- it as that, and as nothing else (RFC 4271, section 4.3).
pub record IsAnnounced (profile : Profile) (external : Bool) (j : ℕ) (lines : List Line) (p : AddressPrefix) (attrs : Attrs) : Type 0 where
  pub octets : List ℕ
  pub among : Contains lines (Out j octets)
  pub reads : IsReadAs profile external octets (announcing p attrs)
