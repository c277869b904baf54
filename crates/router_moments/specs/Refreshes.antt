-- What peers are told that asked for all routes again (RFC 2918).
use Rattle.std.specs.Prelude.{◌≡◌, ℕ, ◌≤◌, List, [], ◌++◌, Some}
use Rattle.journal_text.specs.Lines.{Line}
use Rattle.event_text.specs.Event.{Event}
use Rattle.event_text.specs.declared.declared.DeclaredPeer.{DeclaredPeer}
use Rattle.event_text.specs.Declarations.{Declaration, peer_at}
use Rattle.live_state.specs.Refreshes.{AsksAgain}
use Rattle.exit_laws.specs.Served.{IsServed}
use Rattle.router_moments.specs.Moments.{Moment}

-- session s of peer j has begun, be it this or an earlier one
abbrev pub HasBegun : ℕ → ℕ → Declaration → Type 0
HasBegun j s d = (p : DeclaredPeer) × (peer_at j d.peers ≡ Some p) × (s ≤ p.session)

-- Session s of peer j has begun; where it is up, each row that was sent in it is announced in these lines, or the walk of a refresh has yet
-- to come to it.
pub record IsServedAt (j s : ℕ) (m : Moment) (since : List Line) : Type 0 where
  pub begun : HasBegun j s m.declared
  pub served : IsServed j s m.exits since

-- Who is served at a moment, is served after what was said since then, too.
abbrev pub ServesOn : Moment → List Line → Moment → Type 0
ServesOn m said m' = (j s : ℕ) (since : List Line) → IsServedAt j s m since → IsServedAt j s m' (since ++ said)

-- a peer that asks for all routes by this event is served from now on
abbrev pub ServesNow : Moment → Event → Moment → Type 0
ServesNow m event m' = (k : ℕ) (p : DeclaredPeer) → AsksAgain m.declared event k p → IsServedAt k p.session m' []
