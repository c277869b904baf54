-- What is told the second network in two steps, as the code does: before it is known whether a message ends the session, and then.
use Rattle.std.specs.Prelude.{ℕ, List, if◌then◌else◌, Option, Some, None}
use Rattle.event_text.specs.Event.{Event}
use Rattle.event_text.specs.declared.event.Event.TheVariants.{Nothing, Down, Bgp}
use Rattle.event_text.specs.declared.declared.DeclaredPeer.{DeclaredPeer}
use Rattle.event_text.specs.Declarations.{Declaration, peer_at}
use Rattle.router.specs.Told.{told}

-- a message of a peer that is up
abbrev pub told_if_up : ℕ → List ℕ → Option DeclaredPeer → Event
told_if_up k octets None = Nothing
told_if_up k octets (Some p) = if p.up then Bgp k octets else Nothing

abbrev pub told_so_far : Declaration → Event → Event
told_so_far d (Bgp k octets) = told_if_up k octets (peer_at k d.peers)
told_so_far d other = told d other

-- the session that the message ended goes on no more
abbrev pub told_if_still : ℕ → List ℕ → Option DeclaredPeer → Event
told_if_still k octets None = Down k
told_if_still k octets (Some p) = if p.up then Bgp k octets else Down k

abbrev pub told_then : Declaration → Event → Event
told_then d (Bgp k octets) = told_if_still k octets (peer_at k d.peers)
told_then d other = other
