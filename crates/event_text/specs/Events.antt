-- The event language, and which line is refused: what both networks have, by the family of the words, and what IPv4's has besides.
use Rattle.std.specs.Prelude.{ℕ, Bool, false, if◌then◌else◌, ◌==◌, List, [], ◌∷◌, length, Option, Some, None, Result, Ok, Err, codes, nat_eq}
use Rattle.std.specs.Str.{bytes_eq}
use Rattle.std.specs.List.{starts_with}
use Rattle.addr4.specs.Texts.{number_of, addr_of, prefix_of}
use Rattle.journal_text.specs.Names.{proto_of}
use Rattle.journal_text.specs.declared.line.Code.{Code}
use Rattle.journal_text.specs.declared.line.Code.TheVariants.{E1, E2}
use Rattle.bgp_attr.specs.declared.speaker.Profile.{Profile}
use Rattle.policy_rules.specs.Rules.{Rule}
use Rattle.policy_rules.specs.Words.{◌>>=◌, words}
use Rattle.policy_rules.specs.Grammar.{rules_of}
use Rattle.event_text.specs.Event.{Event}
use Rattle.event_text.specs.declared.event.Event.TheVariants.{Nothing, Whole, Local, Peer, Up, Down, Bgp, FilterIn, FilterOut, RouteAdd, RouteDel, Lose, Redist, Idle, Work, Query}
use Rattle.event_text.specs.declared.event.Question.TheVariants.{Cover, Settled, Ask, Show}
use Rattle.event_text.specs.declared.event.WholeFile.TheVariants.{As4, Revised, Reflect}
use Rattle.event_text.specs.Words.{is_clean, from_one, speaker_by, speaker_of, client_of, octets_of, interior_of, switch_of, link_named, task_named}

-- what follows `local`
unfoldable pub local_of : Bool → List (List ℕ) → Option Event
local_of as4 ws = speaker_of as4 ws >>= λ s. Some (Local s)

-- what follows `peer`: its number, the words of a speaker, and perhaps `client`
unfoldable pub peer_of : Profile → List (List ℕ) → Option Event
peer_of p (k ∷ asn ∷ id ∷ addr ∷ ws) = do
  n ← from_one k
  s ← speaker_by p.as4 asn id addr
  client ← client_of p ws
  Some (Peer n s client)
peer_of p other = None

-- the one word is a peer's number, as behind `up` and `down`
unfoldable pub one_number : List (List ℕ) → Option ℕ
one_number (k ∷ []) = from_one k
one_number other = None

-- what follows `bgp`
unfoldable pub bgp_of : List (List ℕ) → Option Event
bgp_of (k ∷ digits ∷ []) = do
  n ← from_one k
  octets ← octets_of digits
  Some (Bgp n octets)
bgp_of other = None

-- new rules of a peer's filter, on the side of this word: `in` or `out`
unfoldable pub filter_on : List ℕ → ℕ → List Rule → Option Event
filter_on side k rules =
    if bytes_eq side (codes "in") then Some (FilterIn k rules)
    else if bytes_eq side (codes "out") then Some (FilterOut k rules)
    else None

-- what follows `filter`: a side, a peer's number, and rules, perhaps none
unfoldable pub filter_of : Bool → Bool → List (List ℕ) → Option Event
filter_of v6 as4 (side ∷ k ∷ ws) = do
  n ← from_one k
  rules ← rules_of v6 as4 ws
  filter_on side n rules
filter_of v6 as4 other = None

-- what follows `route add`: a protocol, a prefix, and where the route goes
unfoldable pub route_add_of : Bool → List (List ℕ) → Option Event
route_add_of v6 (proto ∷ p ∷ ws) = do
  o ← proto_of proto
  n ← prefix_of v6 p
  row ← interior_of v6 o ws
  Some (RouteAdd n row)
route_add_of v6 other = None

-- what follows `route del`: a protocol and a prefix
unfoldable pub route_del_of : Bool → List (List ℕ) → Option Event
route_del_of v6 (proto ∷ p ∷ []) = do
  o ← proto_of proto
  n ← prefix_of v6 p
  Some (RouteDel o n)
route_del_of v6 other = None

-- what follows `route`
unfoldable pub route_of : Bool → List (List ℕ) → Option Event
route_of v6 [] = None
route_of v6 (w ∷ ws) =
    if bytes_eq w (codes "add") then route_add_of v6 ws
    else if bytes_eq w (codes "del") then route_del_of v6 ws
    else None

-- what follows `lost`
unfoldable pub lost_of : List (List ℕ) → Option Event
lost_of (proto ∷ []) = proto_of proto >>= λ o. Some (Lose o)
lost_of other = None

-- what follows `redist`: a protocol, and `on` or `off`
unfoldable pub redist_of : List (List ℕ) → Option Event
redist_of (proto ∷ state ∷ []) = do
  o ← proto_of proto
  on ← switch_of state
  Some (Redist o on)
redist_of other = None

-- what follows `cover`
unfoldable pub cover_of : Bool → List (List ℕ) → Option Event
cover_of v6 (addr ∷ []) = addr_of v6 addr >>= λ a. Some (Query (Cover a))
cover_of v6 other = None

-- a line that holds for the whole file: its word, alone
unfoldable pub profile_event : List ℕ → List (List ℕ) → Option Event
profile_event w ws =
    if bytes_eq w (codes "as4") then (if length ws == 0 then Some (Whole As4) else None)
    else if bytes_eq w (codes "revised") then (if length ws == 0 then Some (Whole Revised) else None)
    else if bytes_eq w (codes "reflect") then (if length ws == 0 then Some (Whole Reflect) else None)
    else None

-- an event of the interior routes or of the whole file, by its first word and the others
unfoldable pub interior_event : List ℕ → List (List ℕ) → Option Event
interior_event w ws =
    if bytes_eq w (codes "route") then route_of false ws
    else if bytes_eq w (codes "lost") then lost_of ws
    else if bytes_eq w (codes "redist") then redist_of ws
    else if bytes_eq w (codes "cover") then cover_of false ws
    else profile_event w ws

-- what follows `work`
unfoldable pub work_of : Bool → List (List ℕ) → Option Event
work_of v6 (task ∷ turns ∷ []) = do
  t ← task_named v6 task
  n ← number_of turns
  Some (Work t n)
work_of v6 other = None

-- what follows `ask`
unfoldable pub ask_of : Bool → List (List ℕ) → Option Event
ask_of v6 (link ∷ p ∷ []) = do
  l ← link_named v6 link
  n ← prefix_of v6 p
  Some (Query (Ask l n))
ask_of v6 other = None

-- what follows `show`
unfoldable pub show_of : Bool → List (List ℕ) → Option Event
show_of v6 (link ∷ []) = link_named v6 link >>= λ l. Some (Query (Show l))
show_of v6 other = None

-- what follows `settled`
unfoldable pub settled_of : Bool → List (List ℕ) → Option Event
settled_of v6 (p ∷ []) = prefix_of v6 p >>= λ n. Some (Query (Settled n))
settled_of v6 other = None

-- an event that isn't `local`, `peer`, `bgp` or `filter`, by its first word and the others
unfoldable pub plain_event : List ℕ → List (List ℕ) → Option Event
plain_event w ws =
    if bytes_eq w (codes "up") then (one_number ws >>= λ k. Some (Up k))
    else if bytes_eq w (codes "down") then (one_number ws >>= λ k. Some (Down k))
    else if bytes_eq w (codes "idle") then (if length ws == 0 then Some Idle else None)
    else if bytes_eq w (codes "work") then work_of false ws
    else if bytes_eq w (codes "ask") then ask_of false ws
    else if bytes_eq w (codes "show") then show_of false ws
    else if bytes_eq w (codes "settled") then settled_of false ws
    else interior_event w ws

-- an event by its first word and the others
unfoldable pub named_event : Profile → List ℕ → List (List ℕ) → Option Event
named_event p w ws =
    if bytes_eq w (codes "local") then local_of p.as4 ws
    else if bytes_eq w (codes "peer") then peer_of p ws
    else if bytes_eq w (codes "bgp") then bgp_of ws
    else if bytes_eq w (codes "filter") then filter_of false p.as4 ws
    else plain_event w ws

-- a line without words, a comment, or an event
unfoldable pub event_of : Profile → List (List ℕ) → Option Event
event_of p [] = Some Nothing
event_of p (w ∷ ws) = if starts_with nat_eq w (codes "#") then Some Nothing else named_event p w ws

abbrev pub in_grammar : Option Event → Result Event Code
in_grammar None = Err E2
in_grammar (Some event) = Ok event

-- what a line says, or the code with which it is refused, behind the lines that hold for the whole file
unfoldable pub read_event : Profile → List ℕ → Result Event Code
read_event p line = if is_clean line then in_grammar (event_of p (words line)) else Err E1
