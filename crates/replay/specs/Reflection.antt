-- What peers of a route reflector are told (RFC 4456).
use Rattle.std.specs.Prelude.{◌≡◌, ℕ, Bool, true, List, Some}
use Rattle.std.specs.FinMap as tables
use Rattle.addr4.specs.Prefixes.{AddressPrefix}
use Rattle.bgp_attr.specs.Attributes.{Attrs}
use Rattle.bgp_attr.specs.Speakers.{Speaker}
use Rattle.event_text.specs.declared.event.Event.TheVariants.{Idle}
use Rattle.event_text.specs.declared.event.FileEvent.TheVariants.{First}
use Rattle.journal_laws.specs.FamilyLines.{FamilyLine}
use Rattle.router.specs.Networks.{Networks, first_networks, network_of}
use Rattle.event_text.specs.declared.declared.DeclaredPeer.{DeclaredPeer}
use Rattle.event_text.specs.Declarations.{peer_at}
use Rattle.live_state.specs.Reflected.{IsBestAsSent}
use Rattle.exit_laws.specs.Views.{views_of}
use Rattle.router_moments.specs.Lives.{live_state}
use Rattle.router_moments.specs.Moments.{Moment}
use Rattle.replay.specs.Output.{Step, Run}

-- Behind some lines comes an idle. Each route of a family that a peer that is up has heard then is the best of those that are live in its
-- network, decided from scratch, as the peer that it is from announced it, passed on as RFC 4456 asks: never to that peer; and from one
-- internal peer to another only where one of them is a client, with the local ID in front of a CLUSTER_LIST that is one longer than
-- received and didn't have it.
abbrev pub ReflectedRoutesAreMarked : Type 0
ReflectedRoutesAreMarked =
    (lines : List (List ℕ)) (out : List FamilyLine) (m : Networks) → Run 1 first_networks lines out m
    → (n : ℕ) (line : List ℕ) (said : List FamilyLine) (next : Networks) → (step : Step n m line said next) → step.event ≡ First Idle
    → (v6 : Bool) (at : Moment) → network_of v6 next ≡ Some at
    → (me : Speaker) (j : ℕ) (to : DeclaredPeer) → at.declared.speaker ≡ Some me → peer_at j at.declared.peers ≡ Some to → to.up ≡ true
    → (p : AddressPrefix) (sent : Attrs) → tables.get (views_of at.exits j) p ≡ Some sent → IsBestAsSent (live_state at) me to.words p sent
