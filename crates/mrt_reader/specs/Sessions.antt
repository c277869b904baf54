-- Which lines a record gives, by the lines that were written before.
use Rattle.std.specs.Prelude.{ℕ, ◌+◌, ◌-◌, ◌==◌, ◌||◌, nat_lt, Bool, true, false, if◌then◌else◌, List, [], ◌∷◌, ◌++◌, length, slice_set, slice_index_or, Option, Some, None}
use Rattle.std.specs.List.{position}
use Rattle.mrt_reader.specs.Records.{Record}
use Rattle.mrt_reader.specs.Fields.{Told, Said, said}
use Rattle.mrt_reader.specs.Fields as told
use Rattle.mrt_reader.specs.Lines.{Line}
use Rattle.mrt_reader.specs.Lines as lines
use Rattle.mrt_reader.specs.declared.fields.Sides.{Sides}
use Rattle.mrt_reader.specs.declared.sessions.PeerState.{PeerState}

-- ---- what lines have said

-- of a peer: its address, whether its last line of a session is `up`, and how many lines `up` it has
abbrev pub WrittenPeer : Type 0
WrittenPeer = PeerState

-- the local address, and the peers by their numbers from 1
pub record Written : Type 0 where
  pub local : Option ℕ
  pub peers : List WrittenPeer

abbrev pub nothing_written : Written
nothing_written = record { local = None; peers = [] }

-- a peer of which nothing was said but its address
abbrev pub unseen : ℕ → PeerState
unseen addr = record { addr = addr; up = false; sessions = 0 }

-- the peer at a place
abbrev pub peer_at : Written → ℕ → PeerState
peer_at w i = slice_index_or w.peers i (unseen 0)

-- the peer with this number changes
abbrev pub with_peer : Written → ℕ → (PeerState → PeerState) → Written
with_peer w k change = record { local = w.local; peers = slice_set w.peers (k - 1) (change (peer_at w (k - 1))) }

abbrev pub begun : PeerState → PeerState
begun p = record { addr = p.addr; up = true; sessions = p.sessions + 1 }

abbrev pub ended : PeerState → PeerState
ended p = record { addr = p.addr; up = false; sessions = p.sessions }

-- A peer is up or down by the `up` and `down` lines alone.
abbrev pub after : Written → Line → Written
after w lines.As4 = w
after w (lines.Local asn addr) = record { local = Some addr; peers = w.peers }
after w (lines.Peer k asn addr) = record { local = w.local; peers = w.peers ++ unseen addr ∷ [] }
after w (lines.Up k) = with_peer w k begun
after w (lines.Down k) = with_peer w k ended
after w (lines.Bgp k octets) = w
after w lines.Idle = w

abbrev pub after_all : Written → List Line → Written
after_all w [] = w
after_all w (l ∷ ls) = after_all (after w l) ls

-- ---- the lines of one record

-- the first record of use declares this speaker
abbrev pub opening : Bool → Sides → Option ℕ → List Line
opening as4 s (Some addr) = []
opening as4 s None = (if as4 then lines.As4 ∷ [] else []) ++ lines.Local s.local_as s.local ∷ []

-- the local address behind that
abbrev pub local_by : Sides → Option ℕ → ℕ
local_by s (Some addr) = addr
local_by s None = s.local

-- the place of the peer with an address
abbrev pub place_of : ℕ → List PeerState → Option ℕ
place_of addr peers = position (λ p. p.addr == addr) peers

-- an address that comes first is a peer's, up to the 64th
abbrev pub meeting : Sides → List PeerState → Option ℕ → List Line
meeting s peers (Some i) = []
meeting s peers None = if nat_lt (length peers) 64 then lines.Peer (length peers + 1) s.peer_as s.peer ∷ [] else []

-- where the peer stands behind that
abbrev pub place_by : List PeerState → Option ℕ → Option ℕ
place_by peers (Some i) = Some i
place_by peers None = if nat_lt (length peers) 64 then Some (length peers) else None

-- a session begins where none is, up to the 65,535th
abbrev pub beginning : ℕ → PeerState → List Line
beginning k p = if p.up then [] else if nat_lt p.sessions 65535 then lines.Up k ∷ [] else []

-- there is one behind that
abbrev pub has_session : PeerState → Bool
has_session p = p.up || nat_lt p.sessions 65535

-- a session ends where one is
abbrev pub ending : ℕ → PeerState → List Line
ending k p = if p.up then lines.Down k ∷ [] else []

-- what is told of the peer with this number
abbrev pub hearing : ℕ → PeerState → Told → List Line
hearing k p told.Established = beginning k p
hearing k p told.Ended = ending k p
hearing k p (told.Message octets) = beginning k p ++ (if has_session p then lines.Bgp k octets ∷ [] else [])
hearing k p told.NoMessage = []

-- of the peer at a place, if it has one
abbrev pub hearing_at : Written → Told → Option ℕ → List Line
hearing_at w t None = []
hearing_at w t (Some i) = hearing (i + 1) (peer_at w i) t

abbrev pub met_lines : Written → Told → List Line → Option ℕ → List Line
met_lines w t met place = met ++ hearing_at (after_all w met) t place

abbrev pub peer_lines : Written → Sides → Told → List Line
peer_lines w s t = met_lines w t (meeting s w.peers (place_of s.peer w.peers)) (place_by w.peers (place_of s.peer w.peers))

-- the local address is no peer's
abbrev pub foreign_lines : ℕ → Written → Sides → Told → List Line
foreign_lines local w s t = if local == s.peer then [] else peer_lines w s t

abbrev pub opened_lines : ℕ → Written → Sides → Told → List Line → List Line
opened_lines local w s t opened = opened ++ foreign_lines local (after_all w opened) s t

abbrev pub session_lines : Bool → Written → Sides → Told → List Line
session_lines as4 w s t = opened_lines (local_by s w.local) w s t (opening as4 s w.local)

abbrev pub lines_said : Bool → Written → Said → List Line
lines_said as4 w told.Unused = []
lines_said as4 w told.Malformed = []
lines_said as4 w (told.Session s t) = session_lines as4 w s t

-- ---- the lines of records

abbrev pub record_lines : Bool → Written → Record → List Line
record_lines as4 w r = lines_said as4 w (said as4 r)

abbrev pub records_lines : Bool → Written → List Record → List Line
records_lines as4 w [] = []
records_lines as4 w (r ∷ rs) = record_lines as4 w r ++ records_lines as4 (after_all w (record_lines as4 w r)) rs

-- the last line, where there is any
abbrev pub closing : Written → List Line
closing w = elim w.local [ None ↦ [] | Some addr ↦ lines.Idle ∷ [] ]
