-- Events of both networks: which line says them, and which is refused.
use Rattle.std.specs.Prelude.{◌≡◌, ℕ, Bool, true, false, not, ◌||◌, ◌==◌, if◌then◌else◌, List, [], ◌∷◌, length, Option, Some, None, is_none, option_map, Result, Ok, Err, codes}
use Rattle.std.specs.Str.{bytes_eq}
use Rattle.addr4.specs.Families.{IsAddress}
use Rattle.addr4.specs.Hosts.{is_host}
use Rattle.bgp_attr.specs.declared.speaker.Profile.{Profile}
use Rattle.journal_text.specs.declared.line.Code.{Code}
use Rattle.journal_text.specs.declared.line.Code.TheVariants.{E1, E2, E4, E7, E9}
use Rattle.policy_rules.specs.Words.{◌>>=◌, words}
use Rattle.event_text.specs.Event.{Event}
use Rattle.event_text.specs.declared.event.Event.TheVariants.{Nothing, Whole, Local, Peer, Up, Down, Bgp, Idle}
use Rattle.event_text.specs.declared.event.FileEvent.{FileEvent}
use Rattle.event_text.specs.declared.event.FileEvent.TheVariants.{First, Local6, Second}
use Rattle.event_text.specs.Words.{is_clean, host6_of}
use Rattle.event_text.specs.Events.{filter_of, route_of, lost_of, redist_of, cover_of, settled_of, work_of, ask_of, show_of, event_of}
use Rattle.event_text.specs.Declarations.{Declaration, refusal}
use Rattle.event_text.specs.WellFormed.{IsWellFormed}

-- ---- what a line says
-- an event that both networks have, by words of IPv6
unfoldable pub worded_event : List ℕ → List (List ℕ) → Option Event
worded_event w ws =
    if bytes_eq w (codes "route") then route_of true ws
    else if bytes_eq w (codes "cover") then cover_of true ws
    else if bytes_eq w (codes "settled") then settled_of true ws
    else if bytes_eq w (codes "work") then work_of true ws
    else if bytes_eq w (codes "ask") then ask_of true ws
    else if bytes_eq w (codes "show") then show_of true ws
    else None

-- an event of IPv6's network alone, by its first word and the others
unfoldable pub second_named : Profile → List ℕ → List (List ℕ) → Option Event
second_named p w ws =
    if bytes_eq w (codes "filter6") then filter_of true p.as4 ws
    else if bytes_eq w (codes "lost6") then lost_of ws
    else if bytes_eq w (codes "redist6") then redist_of ws
    else worded_event w ws

-- what follows `local6`
unfoldable pub local6_of : List (List ℕ) → Option FileEvent
local6_of (addr ∷ []) = host6_of addr >>= λ a. Some (Local6 a)
local6_of other = None

-- a line of IPv6's network
unfoldable pub second_of : Profile → List (List ℕ) → Option FileEvent
second_of p [] = None
second_of p (w ∷ ws) = if bytes_eq w (codes "local6") then local6_of ws else option_map Second (second_named p w ws)

-- an event by IPv4's words, or else one by IPv6's
abbrev pub first_or : Option Event → Option FileEvent → Option FileEvent
first_or (Some event) otherwise = Some (First event)
first_or None otherwise = otherwise

abbrev pub in_language : Option FileEvent → Result FileEvent Code
in_language None = Err E2
in_language (Some event) = Ok event

-- what a line of a file says, or the code with which it is refused, behind the lines that hold for the whole file
unfoldable pub read_file : Profile → List ℕ → Result FileEvent Code
read_file p line = if is_clean line then in_language (first_or (event_of p (words line)) (second_of p (words line))) else Err E1

-- ---- whether it may stand there
-- behind `local6`: routes of IPv6 are read in messages (RFC 4760)
abbrev pub with_ipv6 : Profile → Profile
with_ipv6 p = record p { v6 = true }

-- why `local6` may not stand here: before `local`, twice, or behind a peer
abbrev pub begin_refusal : Declaration → Option Code
begin_refusal d =
    if is_none d.speaker then Some E4
    else if d.profile.v6 || not (length d.peers == 0) then Some E7
    else None

-- why an event of IPv6's network alone may not stand here: before `local`, without `local6`, or as one of IPv4's
abbrev pub second_refusal : Declaration → Event → Option Code
second_refusal d event =
    if is_none d.speaker then Some E4
    else if d.profile.v6 then refusal d event
    else Some E9

-- why an event of the file may not stand here, by what IPv4's network knows of what was declared; none where it may
unfoldable pub file_refusal : Declaration → FileEvent → Option Code
file_refusal d (First event) = refusal d event
file_refusal d (Local6 addr) = begin_refusal d
file_refusal d (Second event) = second_refusal d event

-- ---- what holds of each that was read
-- one network is told the event, and the other nothing of it
abbrev pub is_of_one : Event → Bool
is_of_one Nothing = false
is_of_one (Whole word) = false
is_of_one (Local words) = false
is_of_one (Peer k words client) = false
is_of_one (Up k) = false
is_of_one (Down k) = false
is_of_one (Bgp k octets) = false
is_of_one Idle = false
is_of_one other = true

-- its words are those of the network that is told it, and the second is told only what is its alone
abbrev pub IsWellSaid : Profile → FileEvent → Type 0
IsWellSaid p (First event) = IsWellFormed false p event
IsWellSaid p (Local6 addr) = (is_host true addr ≡ true) × IsAddress true addr
IsWellSaid p (Second event) = IsWellFormed true p event × (is_of_one event ≡ true)
