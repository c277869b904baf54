-- What each network is told of the events of a file, and what is live in each.
use Rattle.std.specs.Prelude.{◌≡◌, ℕ, true, false, not, if◌then◌else◌, List, Option, Some, None}
use Rattle.bgp_attr.specs.Speakers.{Speaker}
use Rattle.event_text.specs.Event.{Event}
use Rattle.event_text.specs.declared.event.Event.TheVariants.{Nothing, Local, Peer, Up, Down, Bgp, Idle}
use Rattle.event_text.specs.declared.event.FileEvent.{FileEvent}
use Rattle.event_text.specs.declared.event.FileEvent.TheVariants.{First, Local6, Second}
use Rattle.event_text.specs.declared.declared.DeclaredPeer.{DeclaredPeer}
use Rattle.event_text.specs.Declarations.{Declaration, no_declaration, peer_at, with_profile}
use Rattle.event_text.specs.FileEvents.{with_ipv6}
use Rattle.live_state.specs.Declared.{declared_after}
use Rattle.live_state.specs.Lives.{LiveState, LiveAfter, first_live}
use Rattle.live_state.specs.Messages.{ends_session}
use Rattle.router.specs.Ties.{in_second, with_addr}

-- ---- what the second network is told of an event of the first
-- a session that begins or ends, by whether it does
abbrev pub told_up : ℕ → Option DeclaredPeer → Event
told_up k None = Nothing
told_up k (Some p) = if p.up then Nothing else Up k

abbrev pub told_down : ℕ → Option DeclaredPeer → Event
told_down k None = Nothing
told_down k (Some p) = if p.up then Down k else Nothing

-- A message of a peer that is up says of the routes of both families. One that ends the session ends it in the second network as `down`
-- does: the NOTIFICATION that answers it is sent once, and is a line of the first.
abbrev pub told_message : Declaration → ℕ → List ℕ → Option DeclaredPeer → Event
told_message d k octets None = Nothing
told_message d k octets (Some p) =
    if not p.up then Nothing
    else if ends_session d.profile (not p.words.internal) octets then Down k
    else Bgp k octets

-- Both have the peers, their sessions and their messages, and are idle together; of all else the second is told nothing.
abbrev pub told : Declaration → Event → Event
told d (Peer k words client) = Peer k words client
told d (Up k) = told_up k (peer_at k d.peers)
told d (Down k) = told_down k (peer_at k d.peers)
told d (Bgp k octets) = told_message d k octets (peer_at k d.peers)
told d Idle = Idle
told d other = Nothing

-- ---- declarations
-- the words of `local6`: this speaker by its address of IPv6
abbrev pub words6 : ℕ → Option Speaker → Event
words6 addr None = Nothing
words6 addr (Some me) = Local (with_addr addr me)

-- what the first network knows of what was declared, after an event of the file
abbrev pub declared_behind : Declaration → FileEvent → Declaration
declared_behind d (First event) = declared_after d event
declared_behind d (Local6 addr) = with_profile d (with_ipv6 d.profile)
declared_behind d (Second event) = d

-- ---- what is live
-- in each network
pub record Lives : Type 0 where
  pub first : LiveState
  pub second : Option LiveState

abbrev pub first_lives : Lives
first_lives = record { first = first_live false; second = None }

-- in the second one, where it is there
abbrev pub SecondLiveAfter : Option LiveState → Event → Option LiveState → Type 0
SecondLiveAfter None event l' = l' ≡ None
SecondLiveAfter (Some l) event None = ⊥
SecondLiveAfter (Some l) event (Some l') = LiveAfter l event l'

-- the second, to which nothing was declared yet
abbrev pub second_live : Declaration → LiveState
second_live d = record (first_live true) { declared = with_profile (no_declaration true) (in_second (with_ipv6 d.profile)) }

abbrev pub LivesAfter : Lives → FileEvent → Lives → Type 0
LivesAfter l (First event) l' = LiveAfter l.first event l'.first × SecondLiveAfter l.second (told l.first.declared event) l'.second
LivesAfter l (Local6 addr) l' =
    (l'.first ≡ record l.first { declared = with_profile l.first.declared (with_ipv6 l.first.declared.profile) })
    × SecondLiveAfter (Some (second_live l.first.declared)) (words6 addr l.first.declared.speaker) l'.second
LivesAfter l (Second event) l' = (l'.first ≡ l.first) × SecondLiveAfter l.second event l'.second
