-- What a peer is told that asks for all routes again (RFC 2918).
use Rattle.std.specs.Prelude.{◌≡◌, ℕ, ◌+◌, Bool, not, false, List, Some}
use Rattle.std.specs.FinMap as tables
use Rattle.addr4.specs.Prefixes.{AddressPrefix}
use Rattle.bgp_attr.specs.Attributes.{Attrs}
use Rattle.journal_text.specs.declared.link.Task.TheVariants.{Ref}
use Rattle.event_text.specs.Event.{Event}
use Rattle.event_text.specs.declared.event.Event.TheVariants.{Idle}
use Rattle.event_text.specs.declared.event.FileEvent.TheVariants.{First}
use Rattle.journal_laws.specs.FamilyLines.{FamilyLine, lines_in}
use Rattle.router.specs.Networks.{Networks, network_of}
use Rattle.event_text.specs.declared.declared.DeclaredPeer.{DeclaredPeer}
use Rattle.event_text.specs.Declarations.{peer_at}
use Rattle.live_state.specs.Refreshes.{AsksAgain, IsAnnounced}
use Rattle.exit_laws.specs.Views.{views_of}
use Rattle.router_moments.specs.Moments.{Moment}
use Rattle.router_moments.specs.Turns.{has_work}
use Rattle.replay.specs.Output.{Step, Run}

-- By the event of a line peer k asked a network for all routes of its family again; the lines behind it were stepped, and this is said
-- since; at the end the session is still that in which the peer asked.
pub record SinceRefresh (v6 : Bool) (k : ℕ) (out : List FamilyLine) (end : Networks) (at : Moment) : Type 0 where
  pub n : ℕ
  pub m : Networks
  pub line : List ℕ
  pub said : List FamilyLine
  pub next : Networks
  pub step : Step n m line said next
  pub before : Moment
  pub was : network_of v6 m ≡ Some before
  pub event : Event
  pub told : step.event ≡ First event
  pub asker : DeclaredPeer
  pub asks : AsksAgain before.declared event k asker
  pub later : List (List ℕ)
  pub run : Run (n + 1) next later out end
  pub is : network_of v6 end ≡ Some at
  pub peer : DeclaredPeer
  pub there : peer_at k at.declared.peers ≡ Some peer
  pub session : peer.session ≡ asker.session

-- As soon as the task `ref.K` of that network has no work, each route of the family that the peer has was announced to it in the lines
-- since: each row of its `adv.K.S`, which is what it has heard.
abbrev pub RefreshesAreServed : Type 0
RefreshesAreServed =
    (v6 : Bool) (k : ℕ) (out : List FamilyLine) (end : Networks) (at : Moment) → (since : SinceRefresh v6 k out end at) → has_work (Ref k) at ≡ false
    → (p : AddressPrefix) (attrs : Attrs) → tables.get (views_of at.exits k) p ≡ Some attrs
    → IsAnnounced at.declared.profile (not since.peer.words.internal) k (lines_in v6 out) p attrs

-- After an idle it has none.
abbrev pub RefreshesEnd : Type 0
RefreshesEnd =
    (v6 : Bool) (n k : ℕ) (m next : Networks) (at : Moment) (line : List ℕ) (said : List FamilyLine) → (step : Step n m line said next) → step.event ≡ First Idle
    → network_of v6 next ≡ Some at → has_work (Ref k) at ≡ false
