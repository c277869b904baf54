-- The declared peers after each event.
use Rattle.std.proofs.Common.{◌≡◌, ℕ, suc, ◌^◌, get_or, Fits, w8, ◌<◌, Bool, true, false, cond, List, [], ◌∷◌, Option, Some, None, ◌&&◌, not, arith}
use Rattle.std.specs.List.{AllByRecursion}
use Rattle.event_text.specs.Event.{Event}
use Rattle.event_text.specs.declared.event.Event.TheVariants.{Whole, Local, Peer, Up, Down, Bgp}
use Rattle.event_text.specs.declared.declared.DeclaredPeer.{DeclaredPeer}
use Rattle.event_text.specs.Declarations.{Declaration, peer_at, refusal, with_session, without_session, IsDeclaration}
use Rattle.event_text.specs.WellFormed.{IsWellFormed}
use Rattle.journal_laws.proofs.DeclaredPeers.{Leaves, leaves_all, whole_leaves, speaker_leaves, peer_leaves, session_leaves, end_leaves}
use Rattle.live_state.specs.Messages.{ends_session}
use Rattle.live_state.specs.Declared.{declared_up, declared_down, declared_heard, declared_after}

-- ---- octets are what their type says
pub each_octet : (bytes : List ℕ) → ((i : ℕ) → Fits w8 (get_or bytes i 0)) → AllByRecursion (λ b. b < 2 ^ 8) bytes
each_octet [] each = tt
each_octet (b ∷ bytes) each = (omega (arith, each 0), each_octet bytes (λ i. each (suc i)))

-- ---- each event
module _ (d : Declaration) (k : ℕ) (declared : IsDeclaration d) where
  begun_by : refusal d (Up k) ≡ None → (o : Option DeclaredPeer) → Leaves d (declared_up d k o)
  begun_by admitted None = leaves_all d declared
  begun_by admitted (Some p) = elim p.up as (λ (up : Bool). Leaves d (cond up d (with_session d k))) [ true ↦ leaves_all d declared | false ↦ session_leaves d k declared admitted ]

  ended_if : (b : Bool) → Leaves d (cond b (without_session d k) d)
  ended_if true = end_leaves d k declared
  ended_if false = leaves_all d declared

  ended_by : (o : Option DeclaredPeer) → Leaves d (declared_down d k o)
  ended_by None = leaves_all d declared
  ended_by (Some p) = ended_if p.up

  heard_by : (octets : List ℕ) (o : Option DeclaredPeer) → Leaves d (declared_heard d k octets o)
  heard_by octets None = leaves_all d declared
  heard_by octets (Some p) = ended_if (p.up && ends_session d.profile (not p.words.internal) octets)

pub event_leaves : (d : Declaration) (event : Event) → IsDeclaration d → refusal d event ≡ None → IsWellFormed d.v6 d.profile event → Leaves d (declared_after d event)
event_leaves d (Whole word) declared admitted formed = whole_leaves d word declared admitted
event_leaves d (Local words) declared admitted formed = speaker_leaves d words declared admitted formed
event_leaves d (Peer k words client) declared admitted formed = peer_leaves d k words client declared admitted formed
event_leaves d (Up k) declared admitted formed = begun_by d k declared admitted (peer_at k d.peers)
event_leaves d (Down k) declared admitted formed = ended_by d k declared (peer_at k d.peers)
event_leaves d (Bgp k octets) declared admitted formed = heard_by d k declared octets (peer_at k d.peers)
event_leaves d other declared admitted formed = leaves_all d declared
