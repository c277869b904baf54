-- What each event makes of the declarations: how messages are read, who was declared, and whose session is up (RFC 4271, sections 3.2
-- and 6).
use Rattle.std.specs.Prelude.{ℕ, ◌&&◌, not, if◌then◌else◌, List, Option, Some, None}
use Rattle.event_text.specs.Event.{Event}
use Rattle.event_text.specs.declared.event.Event.TheVariants.{Whole, Local, Peer, Up, Down, Bgp}
use Rattle.event_text.specs.declared.declared.DeclaredPeer.{DeclaredPeer}
use Rattle.event_text.specs.Declarations.{Declaration, peer_at, with_profile, with_whole, with_speaker, with_peer, with_session, without_session}
use Rattle.live_state.specs.Messages.{ends_session}

-- the declarations where the session of a peer begins, unless one is up
abbrev pub declared_up : Declaration → ℕ → Option DeclaredPeer → Declaration
declared_up d k None = d
declared_up d k (Some p) = if p.up then d else with_session d k

-- and where it ends, if one is up
abbrev pub declared_down : Declaration → ℕ → Option DeclaredPeer → Declaration
declared_down d k None = d
declared_down d k (Some p) = if p.up then without_session d k else d

-- and where octets came from the peer
abbrev pub declared_heard : Declaration → ℕ → List ℕ → Option DeclaredPeer → Declaration
declared_heard d k octets None = d
declared_heard d k octets (Some p) = if p.up && ends_session d.profile (not p.words.internal) octets then without_session d k else d

-- the declarations after an event
abbrev pub declared_after : Declaration → Event → Declaration
declared_after d (Whole word) = with_profile d (with_whole word d.profile)
declared_after d (Local words) = with_speaker d words
declared_after d (Peer k words client) = with_peer d k words client
declared_after d (Up k) = declared_up d k (peer_at k d.peers)
declared_after d (Down k) = declared_down d k (peer_at k d.peers)
declared_after d (Bgp k octets) = declared_heard d k octets (peer_at k d.peers)
declared_after d other = d
