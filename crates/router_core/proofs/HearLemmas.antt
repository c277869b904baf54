-- An UPDATE that was read for several networks.
use Rattle.router_moments.proofs.Common.{sym, subst, ◌∙◌, ap, ◌≡◌, ℕ, not, Bool, List, Profile, Journaled, Moment, Gives, HasStepped, AreHeard, IsHeardMessage, IsWellFormed}
use Rattle.bgp_wire.specs.declared.message.Message.TheVariants as messages
use Rattle.bgp_wire.specs.declared.message.Update.{Update}
use Rattle.bgp_wire.specs.Readable.{said_of}
use Rattle.bgp_wire.specs.Said.{Said}
use Rattle.event_text.specs.declared.declared.DeclaredPeer.{DeclaredPeer}
use Rattle.event_text.specs.declared.event.Event.TheVariants.{Bgp}
use Rattle.live_state.specs.Messages.{changes_in, changes_of}
use Rattle.router_moments.specs.Moments.{Cored}
use Rattle.router_moments.specs.Works.{HasHeard, IsUpAt}
use Rattle.router_moments.proofs.HeardRows.{changes_heard, message_heard}
use Rattle.router_network.proofs.StepLemmas.{heard_up}
use Rattle.router_core.specs.Heard.{SayOfFamily}

-- what is said of the family does what the UPDATE does to the routes of a network of it
pub said_changes : (profile : Profile) (v6 : Bool) (said : Said) (u : Update) → profile.second ≡ v6 → said ≡ said_of v6 u → changes_in v6 said ≡ changes_of profile u
said_changes profile v6 said u of says = ap (changes_in v6) says ∙ ap (λ b. changes_in b (said_of b u)) (sym of)

pub said_heard : (profile : Profile) (v6 : Bool) (said : Said) (u : Update) → profile.second ≡ v6 → said ≡ said_of v6 u → IsHeardMessage profile (messages.Update u) → AreHeard profile (changes_in v6 said)
said_heard profile v6 said u of says heard = subst (AreHeard profile) (sym (said_changes profile v6 said u of says)) (changes_heard profile u heard)

-- what a core hears, by its parts
module _ (old : Cored) (m : Moment) (n : ℕ) (failed : Bool) (view : record { moment = m; events = n; failed = failed } ≡ old) (k : ℕ) (octets : List ℕ) (said : Said) (s : SayOfFamily old.moment.declared k octets said) where
  here : SayOfFamily m.declared k octets said
  here = subst (λ (c : Cored). SayOfFamily c.moment.declared k octets said) (sym view) s

  pub hears_up : IsUpAt k m
  hears_up = (here.are.peer, here.are.there, here.are.up)

  pub hears_sound : (v6 : Bool) → m.declared.profile.second ≡ v6 → IsWellFormed old.moment.declared.v6 old.moment.declared.profile (Bgp k octets) → AreHeard m.declared.profile (changes_in v6 said)
  hears_sound v6 of formed =
      said_heard m.declared.profile v6 said here.update of (here.of_family ∙ ap (λ b. said_of b here.update) of)
      (message_heard m.declared.profile (not here.are.peer.words.internal) octets (messages.Update here.update) formed.1.bytes here.are.says)

  pub heard_steps : (v6 : Bool) → m.declared.profile.second ≡ v6 → (m' : Moment) (before now : Journaled)
      → ((p : DeclaredPeer) (u : Update) → said ≡ said_of v6 u → Gives (HasHeard k p m (messages.Update u) m') before now) → Gives (HasStepped m (Bgp k octets) 0 m') before now
  heard_steps v6 of m' before now hears =
      heard_up k here.are.peer m m' octets (messages.Update here.update) before now here.are.there here.are.up here.are.says
      (hears here.are.peer here.update (here.of_family ∙ ap (λ b. said_of b here.update) of))
