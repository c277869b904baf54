-- What is live behind lines is one: what their events make of it leaves no choice.
use Rattle.std.proofs.Common.{◌≡◌, ℕ, ◌+◌, sym, ap, subst, ◌∙◌, Bool, true, false, not, List, [], ◌∷◌, Option, Some, None}
use Rattle.bgp_wire.specs.Grammar.{EachHasOne}
use Rattle.bgp_wire.specs.declared.message.Message.{Message}
use Rattle.event_text.specs.declared.declared.DeclaredPeer.{DeclaredPeer}
use Rattle.event_text.specs.Event.{Event}
use Rattle.event_text.specs.declared.event.Event.TheVariants.{Bgp}
use Rattle.event_text.specs.declared.event.FileEvent.{FileEvent}
use Rattle.event_text.specs.declared.event.FileEvent.TheVariants.{First, Local6, Second}
use Rattle.event_text.specs.Declarations.{peer_at}
use Rattle.live_state.specs.Lives.{LiveState, LiveAfter, HearsFrom, HearsIfUp, heard}
use Rattle.router_determinism.proofs.OneSessions.{answer_is_one}
use Rattle.router.specs.Told.{Lives, LivesAfter, SecondLiveAfter, second_live, told, words6}
use Rattle.replay.specs.Judging.{judge}
use Rattle.replay.specs.One.{LiveIsOne}
use Rattle.replay.specs.Output.{LiveThrough}
use Rattle.replay.proofs.OneOutput.{same_event}

module _ (law : EachHasOne) where
  -- a message
  heard_one : (l one other : LiveState) (k : ℕ) (p : DeclaredPeer) (octets : List ℕ) (up : Bool) → HearsIfUp l k p octets up one → HearsIfUp l k p octets up other → one ≡ other
  heard_one l one other k p octets false f g = f ∙ sym g
  heard_one l one other k p octets true f g = f.2 ∙ ap (λ (m : Message). heard l k m) (answer_is_one l.declared.profile (not p.words.internal) octets law f.0 g.0 f.1 g.1) ∙ sym g.2

  from_one : (l one other : LiveState) (k : ℕ) (o : Option DeclaredPeer) (octets : List ℕ) → HearsFrom l k o octets one → HearsFrom l k o octets other → one ≡ other
  from_one l one other k None octets f g = absurd f
  from_one l one other k (Some p) octets f g = heard_one l one other k p octets p.up f g

  -- an event of one network
  event_one : (l one other : LiveState) (event : Event) → LiveAfter l event one → LiveAfter l event other → one ≡ other
  event_one l one other (Bgp k octets) f g = from_one l one other k (peer_at k l.declared.peers) octets f g
  event_one l one other event f g = f ∙ sym g

  second_one : (o one other : Option LiveState) (event : Event) → SecondLiveAfter o event one → SecondLiveAfter o event other → one ≡ other
  second_one None one other event f g = f ∙ sym g
  second_one (Some l) None other event f g = absurd f
  second_one (Some l) (Some one) None event f g = absurd g
  second_one (Some l) (Some one) (Some other) event f g = ap Some (event_one l one other event f g)

  -- of both
  both_one : (one other : Lives) → one.first ≡ other.first → one.second ≡ other.second → one ≡ other
  both_one one other first second = λ i. record { first = first i; second = second i }

  file_one : (l one other : Lives) (event : FileEvent) → LivesAfter l event one → LivesAfter l event other → one ≡ other
  file_one l one other (First event) f g =
      both_one one other (event_one l.first one.first other.first event f.0 g.0) (second_one l.second one.second other.second (told l.first.declared event) f.1 g.1)
  file_one l one other (Local6 addr) f g =
      both_one one other (f.0 ∙ sym g.0) (second_one (Some (second_live l.first.declared)) one.second other.second (words6 addr l.first.declared.speaker) f.1 g.1)
  file_one l one other (Second event) f g = both_one one other (f.0 ∙ sym g.0) (second_one l.second one.second other.second event f.1 g.1)

  -- lines
  pub live_is_one : LiveIsOne
  live_is_one n live one other [] f g = f ∙ sym g
  live_is_one n live one other (line ∷ lines) f g =
      let event : g.0 ≡ f.0 = same_event g.0 f.0 (judge n live.first.declared line) g.2 f.2 in
      let next : g.1 ≡ f.1 = file_one live g.1 f.1 f.0 (subst (λ (e : FileEvent). LivesAfter live e g.1) event g.3) f.3 in
      live_is_one (n + 1) f.1 one other lines f.4 (subst (λ (l : Lives). LiveThrough (n + 1) l lines other) next g.4)
