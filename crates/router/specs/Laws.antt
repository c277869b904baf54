-- What an event that may stand in a file is to the second network.
use Rattle.std.specs.Prelude.{◌≡◌, ℕ, Bool, true, false, List, [], Some, None}
use Rattle.bgp_attr.specs.Speakers.{Speaker, IsSpeaker, IsProfileOf}
use Rattle.bgp_attr.specs.declared.speaker.Profile.{Profile}
use Rattle.bgp_wire.specs.declared.message.Update.{Update}
use Rattle.event_text.specs.Event.{Event}
use Rattle.event_text.specs.declared.event.Event.TheVariants.{Bgp}
use Rattle.event_text.specs.declared.event.FileEvent.TheVariants.{Local6, Second}
use Rattle.event_text.specs.Declarations.{Declaration, no_declaration, refusal, with_profile, with_speaker, IsDeclaration}
use Rattle.event_text.specs.FileEvents.{IsWellSaid, file_refusal, with_ipv6}
use Rattle.event_text.specs.WellFormed.{IsWellFormed}
use Rattle.live_state.specs.Declared.{declared_after}
use Rattle.live_state.specs.Messages.{ends_session}
use Rattle.router_core.specs.Heard.{AreUpdate}
use Rattle.router.specs.Ties.{AreTied, in_second, with_addr}
use Rattle.router.specs.Told.{told}
use Rattle.router.specs.Codes.{told_so_far, told_then}

-- Whose network reads a message doesn't matter to whether it ends the session.
abbrev pub SessionsEndInBoth : Type 0
SessionsEndInBoth = (p : Profile) (external : Bool) (octets : List ℕ) → ends_session (in_second p) external octets ≡ ends_session p external octets

-- What the second network is told may stand there, and both are tied after it.
pub record MayBeTold (d d6 : Declaration) (event : Event) : Type 0 where
  pub admitted : refusal d6 (told d event) ≡ None
  pub formed : IsWellFormed d6.v6 d6.profile (told d event)
  pub tied : AreTied (declared_after d event) (declared_after d6 (told d event))

abbrev pub ToldMayStand : Type 0
ToldMayStand = (d d6 : Declaration) (event : Event) → AreTied d d6 → d.v6 ≡ false → refusal d event ≡ None → IsWellFormed false d.profile event → MayBeTold d d6 event

-- It is known once the first network has heard the event.
abbrev pub ToldInTwo : Type 0
ToldInTwo = (d : Declaration) (event : Event) → told_then (declared_after d event) (told_so_far d event) ≡ told d event

-- An event of the second network alone may stand there, and leaves what was declared as it is.
pub record MayStandAlone (d6 : Declaration) (event : Event) : Type 0 where
  pub admitted : refusal d6 event ≡ None
  pub formed : IsWellFormed d6.v6 d6.profile event
  pub stays : declared_after d6 event ≡ d6

abbrev pub SecondMayStand : Type 0
SecondMayStand = (d d6 : Declaration) (event : Event) → AreTied d d6 → file_refusal d (Second event) ≡ None → IsWellSaid d.profile (Second event) → MayStandAlone d6 event

-- Where `local6` may stand, this speaker is declared, and no peer; and both are tied behind it.
pub record MayBegin (d : Declaration) (addr : ℕ) : Type 0 where
  pub me : Speaker
  pub local : d.speaker ≡ Some me
  pub alone : d.peers ≡ []
  pub unspoken : d.profile.v6 ≡ false
  pub words : IsSpeaker true d.profile.as4 (with_addr addr me)
  pub family : IsProfileOf true (in_second (with_ipv6 d.profile))
  pub tied : AreTied (with_profile d (with_ipv6 d.profile)) (with_speaker (with_profile (no_declaration true) (in_second (with_ipv6 d.profile))) (with_addr addr me))

abbrev pub Local6MayStand : Type 0
Local6MayStand = (d : Declaration) (addr : ℕ) → IsDeclaration d → d.v6 ≡ false → file_refusal d (Local6 addr) ≡ None → IsWellSaid d.profile (Local6 addr) → MayBegin d addr

-- An UPDATE of a peer that is up is told to the second network, and its octets are the same UPDATE there.
pub record IsToldUpdate (d d6 : Declaration) (k : ℕ) (octets : List ℕ) (u : Update) : Type 0 where
  pub is_told : told d (Bgp k octets) ≡ Bgp k octets
  pub are : AreUpdate d6 k octets u

abbrev pub UpdateIsTold : Type 0
UpdateIsTold = (d d6 : Declaration) (k : ℕ) (octets : List ℕ) (u : Update) → AreTied d d6 → AreUpdate d k octets u → IsToldUpdate d d6 k octets u
