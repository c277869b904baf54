-- What was declared so far, and which events may stand there.
use Rattle.std.specs.Prelude.{◌≡◌, ℕ, ◌+◌, ◌≤◌, ◌<◌, ◌==◌, nat_le, Bool, true, false, not, ◌&&◌, ◌||◌, if◌then◌else◌, List, [], ◌∷◌, ◌++◌, length, map, Option, Some, None, is_none, refl}
use Rattle.std.specs.Coded.{Coded, code_by, coded×, coded_bool, coded_option, coded_list}
use Rattle.bgp_attr.specs.Speakers.{Speaker}
use Rattle.bgp_attr.specs.declared.speaker.Neighbour.{Neighbour}
use Rattle.bgp_attr.specs.declared.speaker.Profile.{Profile}
use Rattle.bgp_attr.specs.Speakers.{IsSpeaker, IsNeighbourOf}
use Rattle.journal_text.specs.declared.link.Link.{Link}
use Rattle.journal_text.specs.declared.link.Link.TheVariants as links
use Rattle.journal_text.specs.declared.link.Task.{Task}
use Rattle.journal_text.specs.declared.link.Task.TheVariants.{Del, Fin, Nh, Out, Ref}
use Rattle.journal_text.specs.declared.line.Code.{Code}
use Rattle.journal_text.specs.declared.line.Code.TheVariants.{E3, E4, E5, E6, E7, E8}
use Rattle.event_text.specs.Event.{Event, Question}
use Rattle.event_text.specs.declared.event.Event.TheVariants.{Nothing, Whole, Local, Peer, Up, Down, Bgp, FilterIn, FilterOut, Work, Query}
use Rattle.event_text.specs.declared.event.Question.TheVariants.{Ask, Show}
use Rattle.event_text.specs.declared.event.WholeFile.{WholeFile}
use Rattle.event_text.specs.declared.event.WholeFile.TheVariants.{As4, Revised, Reflect}
use Rattle.event_text.specs.declared.declared.DeclaredPeer.{DeclaredPeer}

-- AS numbers have two octets, errors in attributes are handled by RFC 4271, section 6.3, and this speaker is no route reflector, in the
-- network of a family: that of IPv6 is there where IPv6 is spoken
abbrev pub plain_of : Bool → Profile
plain_of v6 = record { as4 = false; revised = false; reflect = false; v6 = v6; second = v6 }

-- the same in IPv4's, where nothing was said
abbrev pub plain : Profile
plain = plain_of false

-- behind `as4`: AS numbers have four octets (RFC 6793)
abbrev pub with_four_octets : Profile → Profile
with_four_octets p = record p { as4 = true }

-- behind `revised`: errors in attributes are handled by the revised table (RFC 7606)
abbrev pub with_revised : Profile → Profile
with_revised p = record p { revised = true }

-- behind `reflect`: this speaker is a route reflector (RFC 4456)
abbrev pub with_reflection : Profile → Profile
with_reflection p = record p { reflect = true }

-- what a line says of the whole file, and whether one has said it
abbrev pub with_whole : WholeFile → Profile → Profile
with_whole As4 p = with_four_octets p
with_whole Revised p = with_revised p
with_whole Reflect p = with_reflection p

abbrev pub is_said : WholeFile → Profile → Bool
is_said As4 p = p.as4
is_said Revised p = p.revised
is_said Reflect p = p.reflect

-- What one network knows of what was declared: which family it is of, what holds for the whole file, the words of `local`, with the address
-- of that family, and the peers in the order in which they were declared. Their addresses are IPv4's.
pub record Declaration : Type 0 where
  pub v6 : Bool
  pub profile : Profile
  pub speaker : Option Speaker
  pub peers : List DeclaredPeer

abbrev pub declaration_code : Coded Profile → Coded Speaker → Coded DeclaredPeer → Coded Declaration
declaration_code f s p =
    code_by (Bool × (Profile × (Option Speaker × List DeclaredPeer))) (coded× coded_bool (coded× f (coded× (coded_option s) (coded_list p))))
    (λ d. (d.v6, (d.profile, (d.speaker, d.peers)))) (λ q. record { v6 = q.0; profile = q.1.0; speaker = q.1.1.0; peers = q.1.1.1 }) (λ _. refl)

-- nothing, in the network of a family
abbrev pub no_declaration : Bool → Declaration
no_declaration v6 = record { v6 = v6; profile = plain_of v6; speaker = None; peers = [] }

-- the peer of this number
abbrev pub peer_at : ℕ → List DeclaredPeer → Option DeclaredPeer
peer_at k [] = None
peer_at k (p ∷ ps) = if p.words.number == k then Some p else peer_at k ps

-- each number stands once, and no session is beyond the last
abbrev pub IsCounted : List DeclaredPeer → Type 0
IsCounted [] = Unit {0}
IsCounted (p ∷ ps) = (p.session ≤ 65535) × (peer_at p.words.number ps ≡ None) × IsCounted ps

-- the address is one of a peer
abbrev pub has_addr : ℕ → List DeclaredPeer → Bool
has_addr addr [] = false
has_addr addr (p ∷ ps) = p.words.addr == addr || has_addr addr ps

-- this speaker as its peers know it, by an address of IPv4: in IPv6's network it has none, and 0.0.0.0 is no peer's
abbrev pub to_peers : Bool → Speaker → Speaker
to_peers v6 local = record local { addr = if v6 then 0 else local.addr }

-- Of what may not be declared twice: the peer's number, its address among the peers', its address as the local one.
abbrev pub is_taken : Speaker → List DeclaredPeer → ℕ → Speaker → Bool
is_taken local peers k words = not (is_none (peer_at k peers)) || (has_addr words.addr peers || local.addr == words.addr)

-- a peer that is declared may have a new session, unless it is up: then nothing happens
abbrev pub session_refusal : Option DeclaredPeer → Option Code
session_refusal None = Some E5
session_refusal (Some p) = if not p.up && p.session == 65535 then Some E6 else None

abbrev pub undeclared : Option DeclaredPeer → Option Code
undeclared None = Some E5
undeclared (Some p) = None

-- a declared peer may have so many rules
abbrev pub rules_refusal : ℕ → Option DeclaredPeer → Option Code
rules_refusal count None = Some E5
rules_refusal count (Some p) = if nat_le count 64 then None else Some E6

-- a task of a peer needs it declared; one of a protocol, of redistribution or of the forwarding side doesn't
abbrev pub task_refusal : Task → List DeclaredPeer → Option Code
task_refusal (Del k s) peers = undeclared (peer_at k peers)
task_refusal (Fin k) peers = undeclared (peer_at k peers)
task_refusal (Nh k) peers = undeclared (peer_at k peers)
task_refusal (Out k) peers = undeclared (peer_at k peers)
task_refusal (Ref k) peers = undeclared (peer_at k peers)
task_refusal other peers = None

-- a link of a peer needs it declared; the others don't
abbrev pub link_refusal : Link → List DeclaredPeer → Option Code
link_refusal (links.In k) peers = undeclared (peer_at k peers)
link_refusal (links.Peer k s) peers = undeclared (peer_at k peers)
link_refusal (links.Filt k) peers = undeclared (peer_at k peers)
link_refusal (links.Res k) peers = undeclared (peer_at k peers)
link_refusal (links.Read j s) peers = undeclared (peer_at j peers)
link_refusal (links.Outf j s) peers = undeclared (peer_at j peers)
link_refusal (links.Adv j s) peers = undeclared (peer_at j peers)
link_refusal other peers = None

-- why a peer may not be declared: something of it is taken, it is a client of another AS, its number is too high
abbrev pub peer_refusal : Speaker → List DeclaredPeer → ℕ → Speaker → Bool → Option Code
peer_refusal local peers k words client =
    if is_taken local peers k words then Some E3
    else if client && not (local.asn == words.asn) then Some E8
    else if nat_le k 64 then None
    else Some E6

-- a question about a peer's link needs the peer declared
abbrev pub question_refusal : Question → List DeclaredPeer → Option Code
question_refusal (Ask link p) peers = link_refusal link peers
question_refusal (Show link) peers = link_refusal link peers
question_refusal other peers = None

-- where `local` was declared: what holds for the whole file is said too late
abbrev pub refusal_by : Bool → Speaker → List DeclaredPeer → Event → Option Code
refusal_by v6 local peers (Whole word) = Some E7
refusal_by v6 local peers (Local words) = Some E3
refusal_by v6 local peers (Peer k words client) = peer_refusal (to_peers v6 local) peers k words client
refusal_by v6 local peers (Up k) = session_refusal (peer_at k peers)
refusal_by v6 local peers (Down k) = undeclared (peer_at k peers)
refusal_by v6 local peers (Bgp k octets) = undeclared (peer_at k peers)
refusal_by v6 local peers (FilterIn k rules) = rules_refusal (length rules) (peer_at k peers)
refusal_by v6 local peers (FilterOut k rules) = rules_refusal (length rules) (peer_at k peers)
refusal_by v6 local peers (Work task n) = task_refusal task peers
refusal_by v6 local peers (Query question) = question_refusal question peers
refusal_by v6 local peers other = None

-- before `local`: what holds for the whole file is said once
abbrev pub refusal_first : Profile → Event → Option Code
refusal_first profile Nothing = None
refusal_first profile (Whole word) = if is_said word profile then Some E7 else None
refusal_first profile (Local words) = None
refusal_first profile other = Some E4

-- why an event may not stand here; none where it may
abbrev pub refusal_at : Bool → Profile → Option Speaker → List DeclaredPeer → Event → Option Code
refusal_at v6 profile None peers event = refusal_first profile event
refusal_at v6 profile (Some local) peers event = refusal_by v6 local peers event

unfoldable pub refusal : Declaration → Event → Option Code
refusal d event = refusal_at d.v6 d.profile d.speaker d.peers event

-- the words of a peer, which is internal where its AS is the local one
abbrev pub is_internal : Option Speaker → ℕ → Bool
is_internal None asn = false
is_internal (Some local) asn = local.asn == asn

abbrev pub words_of : Option Speaker → ℕ → Speaker → Bool → Neighbour
words_of local k s client = record { number = k; asn = s.asn; id = s.id; addr = s.addr; internal = is_internal local s.asn; client = client }

-- after `as4`, `revised` or `reflect`
abbrev pub with_profile : Declaration → Profile → Declaration
with_profile d profile = record d { profile = profile }

-- after `local`
abbrev pub with_speaker : Declaration → Speaker → Declaration
with_speaker d s = record d { speaker = Some s }

-- after `peer`
abbrev pub with_peer : Declaration → ℕ → Speaker → Bool → Declaration
with_peer d k s client = record d { peers = d.peers ++ record { words = words_of d.speaker k s client; session = 0; up = false } ∷ [] }

-- a peer's next session begins, unless one is up
abbrev pub begun_at : ℕ → DeclaredPeer → DeclaredPeer
begun_at k p = if p.words.number == k && not p.up then record { words = p.words; session = p.session + 1; up = true } else p

-- its session ends
abbrev pub ended_at : ℕ → DeclaredPeer → DeclaredPeer
ended_at k p = if p.words.number == k then record { words = p.words; session = p.session; up = false } else p

abbrev pub with_session : Declaration → ℕ → Declaration
with_session d k = record d { peers = map (begun_at k) d.peers }

abbrev pub without_session : Declaration → ℕ → Declaration
without_session d k = record d { peers = map (ended_at k) d.peers }

-- a peer that was declared after `local`; its session counts from 1
pub record IsPeerOf (profile : Profile) (local : Speaker) (p : DeclaredPeer) : Type 0 where
  pub words : IsNeighbourOf profile local p.words
  pub begun : p.up ≡ true → 0 < p.session

abbrev pub ArePeersOf : Profile → Speaker → List DeclaredPeer → Type 0
ArePeersOf profile local [] = Unit {0}
ArePeersOf profile local (p ∷ ps) = IsPeerOf profile local p × ArePeersOf profile local ps

-- no two peers have the same address
abbrev pub HaveOwnAddrs : List DeclaredPeer → Type 0
HaveOwnAddrs [] = Unit {0}
HaveOwnAddrs (p ∷ ps) = (has_addr p.words.addr ps ≡ false) × HaveOwnAddrs ps

-- What was declared since `local`. Its address is one of the network's family. Numbers are from 1 to 64, each once; addresses stand once,
-- none is the one by which peers know this speaker; sessions are at most 65535, and one that is up is at least the first.
pub record AreDeclared (v6 : Bool) (profile : Profile) (local : Speaker) (peers : List DeclaredPeer) : Type 0 where
  pub speaker : IsSpeaker v6 profile.as4 local
  pub each : ArePeersOf profile (to_peers v6 local) peers
  pub counted : IsCounted peers
  pub addrs : HaveOwnAddrs peers

-- peers stand only where `local` does
abbrev pub IsDeclaredBy : Bool → Profile → Option Speaker → List DeclaredPeer → Type 0
IsDeclaredBy v6 profile None peers = peers ≡ []
IsDeclaredBy v6 profile (Some local) peers = AreDeclared v6 profile local peers

-- what events can have declared
abbrev pub IsDeclaration : Declaration → Type 0
IsDeclaration d = IsDeclaredBy d.v6 d.profile d.speaker d.peers
