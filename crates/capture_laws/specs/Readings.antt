-- The events that the lines of a capture are, and where they may stand.
use Rattle.std.specs.Prelude.{◌≡◌, ◌⊎◌, ℕ, ◌/◌, ◌^◌, Bool, false, List, [], ◌∷◌, None, Ok, ⊤}
use Rattle.std.specs.List.{AllByRecursion, join_with_byte}
use Rattle.bgp_attr.specs.Speakers.{Speaker}
use Rattle.event_text.specs.Event.{Event}
use Rattle.event_text.specs.declared.event.Event.TheVariants as events
use Rattle.event_text.specs.declared.event.WholeFile.TheVariants.{As4}
use Rattle.event_text.specs.Events.{read_event}
use Rattle.event_text.specs.Declarations.{Declaration, no_declaration, refusal, with_profile, with_four_octets, with_speaker, with_peer, with_session, without_session}
use Rattle.mrt_reader.specs.Records.{Record}
use Rattle.mrt_reader.specs.Lines.{Line, line_words}
use Rattle.mrt_reader.specs.Lines as lines
use Rattle.mrt_reader.specs.Order.{HasBytes, file_lines}

-- a line without its end
abbrev pub line_bytes : Line → List ℕ
line_bytes line = join_with_byte 32 (line_words line)

-- an address stands for the BGP identifier too
abbrev pub speaker : ℕ → ℕ → Speaker
speaker asn addr = record { asn = asn; id = addr / 2 ^ 96; addr = addr }

-- the event that a line is; no peer of a capture is a client
abbrev pub event_of_line : Line → Event
event_of_line lines.As4 = events.Whole As4
event_of_line (lines.Local asn addr) = events.Local (speaker asn addr)
event_of_line (lines.Peer k asn addr) = events.Peer k (speaker asn addr) false
event_of_line (lines.Up k) = events.Up k
event_of_line (lines.Down k) = events.Down k
event_of_line (lines.Bgp k octets) = events.Bgp k octets
event_of_line lines.Idle = events.Idle

-- What these events make of the declarations: a session may begin or end by the lines that say so, and end by a message.
pub record Declares (after : Declaration → Event → Declaration) : Type 0 where
  pub as4 : (d : Declaration) → after d (events.Whole As4) ≡ with_profile d (with_four_octets d.profile)
  pub local : (d : Declaration) (s : Speaker) → after d (events.Local s) ≡ with_speaker d s
  pub peer : (d : Declaration) (k : ℕ) (s : Speaker) → after d (events.Peer k s false) ≡ with_peer d k s false
  pub up : (d : Declaration) (k : ℕ) → (after d (events.Up k) ≡ d) ⊎ (after d (events.Up k) ≡ with_session d k)
  pub down : (d : Declaration) (k : ℕ) → (after d (events.Down k) ≡ d) ⊎ (after d (events.Down k) ≡ without_session d k)
  pub bgp : (d : Declaration) (k : ℕ) (octets : List ℕ) → (after d (events.Bgp k octets) ≡ d) ⊎ (after d (events.Bgp k octets) ≡ without_session d k)
  pub idle : (d : Declaration) → after d events.Idle ≡ d

-- Each line is read as its event, with the profile that the lines before it say, and the event may stand behind theirs.
abbrev pub AreAccepted : (Declaration → Event → Declaration) → Declaration → List Line → Type 0
AreAccepted after d [] = ⊤
AreAccepted after d (l ∷ ls) = (read_event d.profile (line_bytes l) ≡ Ok (event_of_line l)) × (refusal d (event_of_line l) ≡ None) × AreAccepted after (after d (event_of_line l)) ls

-- The lines of a file of records of bytes are accepted.
abbrev pub LinesAreAccepted : Type 0
LinesAreAccepted = (after : Declaration → Event → Declaration) → Declares after → (as4 : Bool) (records : List Record) → AllByRecursion HasBytes records → AreAccepted after (no_declaration false) (file_lines as4 records)
