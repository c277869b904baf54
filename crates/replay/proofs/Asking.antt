-- A peer that asks for all routes again asks each network of its routes.
use Rattle.std.proofs.Common.{◌≡◌, ℕ, ◌&&◌, Bool, true, false, not, cond, nat_eq, List, [], ◌∷◌, map, Option, Some, None, refl, sym, ap, subst, ◌∙◌}
use Rattle.bgp_attr.specs.declared.speaker.Neighbour.{Neighbour}
use Rattle.bgp_attr.specs.declared.speaker.Profile.{Profile}
use Rattle.bgp_wire.specs.declared.message.Message.TheVariants.{Refresh}
use Rattle.journal_text.specs.Lines.{Line}
use Rattle.event_text.specs.Event.{Event}
use Rattle.event_text.specs.declared.event.Event.TheVariants.{Nothing, Down, Bgp}
use Rattle.event_text.specs.declared.declared.DeclaredPeer.{DeclaredPeer}
use Rattle.event_text.specs.Declarations.{Declaration, peer_at, ended_at, without_session}
use Rattle.journal_laws.specs.Peers.{words_in}
use Rattle.journal_laws.specs.FamilyLines.{FamilyLine}
use Rattle.live_state.specs.Declared.{declared_after, declared_down, declared_heard}
use Rattle.live_state.specs.Laws.{SessionsEnd}
use Rattle.live_state.specs.Messages.{ends_session}
use Rattle.live_state.specs.Refreshes.{AsksAgain}
use Rattle.live_state.proofs.SessionLemmas.{follows}
use Rattle.router_moments.specs.Lives.{live_state}
use Rattle.router_moments.specs.Moments.{Moment}
use Rattle.router_moments.specs.Refreshes.{IsServedAt}
use Rattle.router.specs.Ties.{AreTied, in_second}
use Rattle.router.specs.Networks.{Networks, IsTiedTo, KnowTheSame, network_of}
use Rattle.router.specs.Told.{told, told_message}
use Rattle.router.specs.Steps.{SecondActs, BothAct}
use Rattle.router.proofs.ReadingLemmas.{sessions_end}

-- ---- which peer asked
same_peer : (o : Option DeclaredPeer) (p q : DeclaredPeer) → o ≡ Some p → o ≡ Some q → p ≡ q
same_peer o p q first second = let same : Some p ≡ Some q = sym first ∙ second in cc

same_words : (p q : DeclaredPeer) → words_in (Some p) ≡ words_in (Some q) → p.words ≡ q.words
same_words p q e = cc

-- a session that ends leaves the peer's words
words_kept : (k : ℕ) (ps : List DeclaredPeer) → words_in (peer_at k (map (ended_at k) ps)) ≡ words_in (peer_at k ps)
words_kept k [] = refl
words_kept k (p ∷ ps) = by (nat_eq p.words.number k) refl (words_kept k ps)
  where
    by : (b : Bool) → nat_eq p.words.number k ≡ b → words_in (peer_at k (map (ended_at k) ps)) ≡ words_in (peer_at k ps) → words_in (peer_at k (map (ended_at k) (p ∷ ps))) ≡ words_in (peer_at k (p ∷ ps))
    by true is later = rw is (rw is refl)
    by false is later = rw is (rw is later)

-- ---- a message that asks is told the second network, too, where both know the same behind it
module _ (d d6 d' d6' : Declaration) (k : ℕ) (octets : List ℕ) (asker : DeclaredPeer) (tied : AreTied d' d6') (there : peer_at k d6.peers ≡ Some asker) (up : asker.up ≡ true)
    (goes_on : ends_session d6.profile (not asker.words.internal) octets ≡ false) where
  -- nothing was told, and no session ended
  same_at : (o : Option DeclaredPeer) → peer_at k d.peers ≡ o → d' ≡ d → d6' ≡ d6 → o ≡ Some asker
  same_at o at first second = sym at ∙ (ap (λ (x : Declaration). peer_at k x.peers) (sym first) ∙ ap (peer_at k) (sym tied.peers) ∙ ap (λ (x : Declaration). peer_at k x.peers) second ∙ there)

  no_peer : peer_at k d.peers ≡ None → d' ≡ d → d6' ≡ d6 → ⊥
  no_peer at first second = let clash : ◌≡◌ {A = Option DeclaredPeer} None (Some asker) = same_at None at first second in absurd (cc)

  is_down : (p : DeclaredPeer) → peer_at k d.peers ≡ Some p → p.up ≡ false → d' ≡ d → d6' ≡ d6 → ⊥
  is_down p at down first second =
      let same = same_peer (Some p) p asker refl (same_at (Some p) at first second) in
      let clash : true ≡ false = sym up ∙ (ap (λ (x : DeclaredPeer). x.up) (sym same) ∙ down) in
      absurd (cc)

  -- both sessions ended, and it was the same peer's
  ended_by : (p : DeclaredPeer) → peer_at k d.peers ≡ Some p → ends_session d.profile (not p.words.internal) octets ≡ true → d' ≡ without_session d k → d6' ≡ without_session d6 k → ⊥
  ended_by p at ends first second =
      let peers : map (ended_at k) d6.peers ≡ map (ended_at k) d.peers = ap (λ (x : Declaration). x.peers) (sym second) ∙ (tied.peers ∙ ap (λ (x : Declaration). x.peers) first) in
      let words : words_in (Some asker) ≡ words_in (Some p) = sym (ap words_in there) ∙ (sym (words_kept k d6.peers) ∙ (ap (λ (ps : List DeclaredPeer). words_in (peer_at k ps)) peers ∙ (words_kept k d.peers ∙ ap words_in at))) in
      let profile : d6.profile ≡ in_second d.profile = ap (λ (x : Declaration). x.profile) (sym second) ∙ (tied.profile ∙ ap (λ (x : Declaration). in_second x.profile) first) in
      let clash : true ≡ false =
      sym ends ∙ (sym (sessions_end d.profile (not p.words.internal) octets)
      ∙ (ap (λ (w : Neighbour). ends_session (in_second d.profile) (not w.internal) octets) (sym (same_words asker p words))
      ∙ (ap (λ (f : Profile). ends_session f (not asker.words.internal) octets) (sym profile) ∙ goes_on))) in
      absurd (cc)

  -- where the second network ends the session
  down_there : declared_after d6 (Down k) ≡ without_session d6 k
  down_there = ap (declared_down d6 k) there ∙ ap (λ (b : Bool). cond b (without_session d6 k) d6) up

  -- by whether the peer is up, and whether its message ends the session
  abbrev told_by : Bool → Bool → Event
  told_by is_up ends = cond (not is_up) Nothing (cond ends (Down k) (Bgp k octets))

  by_message : (p : DeclaredPeer) (is_up ends : Bool) → peer_at k d.peers ≡ Some p → p.up ≡ is_up → ends_session d.profile (not p.words.internal) octets ≡ ends → d' ≡ cond (is_up && ends) (without_session d k) d
      → d6' ≡ declared_after d6 (told_by is_up ends) → told_by is_up ends ≡ Bgp k octets
  by_message p false ends at was says first second = absurd (is_down p at was first second)
  by_message p true true at was says first second = absurd (ended_by p at says first (second ∙ down_there))
  by_message p true false at was says first second = refl

  by_peer : (o : Option DeclaredPeer) → peer_at k d.peers ≡ o → d' ≡ declared_heard d k octets o → d6' ≡ declared_after d6 (told_message d k octets o) → told_message d k octets o ≡ Bgp k octets
  by_peer None at first second = absurd (no_peer at first second)
  by_peer (Some p) at first second = by_message p p.up (ends_session d.profile (not p.words.internal) octets) at refl refl first second

  told_it : d' ≡ declared_after d (Bgp k octets) → d6' ≡ declared_after d6 (told d (Bgp k octets)) → told d (Bgp k octets) ≡ Bgp k octets
  told_it first second = by_peer (peer_at k d.peers) refl first second

-- ---- who asked is served from then on
module _ (law : SessionsEnd) (k : ℕ) (event : Event) (asker : DeclaredPeer) where
  goes_on : (d : Declaration) → (asks : AsksAgain d event k asker) → ends_session d.profile (not asker.words.internal) asks.octets ≡ false
  goes_on d asks = sym (law d.profile asker asks.octets (Refresh asks.request) asks.says)

  told_again : (d d' : Declaration) (before after : Moment) → (asks : AsksAgain before.declared event k asker) → d' ≡ declared_after d event → AreTied d' after.declared
      → after.declared ≡ declared_after before.declared (told d event) → told d event ≡ event
  told_again d d' before after asks first tied second =
      let as_message = ap (told d) asks.message in
      as_message
      ∙ (told_it d before.declared d' after.declared k asks.octets asker tied asks.there asks.up (goes_on before.declared asks) (first ∙ ap (declared_after d) asks.message) (second ∙ ap (λ (e : Event). declared_after before.declared e) as_message)
      ∙ sym asks.message)

  -- the network of a family that was asked
  abbrev ServedThere : Bool → Networks → Type 0
  ServedThere v6 next = (at : Moment) × (network_of v6 next ≡ Some at) × IsServedAt k asker.session at []

  second_serves : (d : Declaration) (first before : Moment) (o : Option Moment) (turns : ℕ) (said : List Line) → AsksAgain before.declared event k asker → first.declared ≡ declared_after d event → IsTiedTo first o
      → SecondActs (Some before) (told d event) turns o said → (at : Moment) × (o ≡ Some at) × IsServedAt k asker.session at []
  second_serves d first before None turns said asks is tied acts = absurd acts
  second_serves d first before (Some after) turns said asks is tied acts =
      let declared = follows law (live_state before) (told d event) (live_state after) acts.live in
      let same = told_again d first.declared before after asks is tied declared in
      (after, refl, acts.asked k asker (subst (λ (e : Event). AsksAgain before.declared e k asker) (sym same) asks))

  pub serves_from : (v6 : Bool) (m next : Networks) (before : Moment) (turns : ℕ) (said : List FamilyLine) → network_of v6 m ≡ Some before → AsksAgain before.declared event k asker → KnowTheSame next
      → next.first.declared ≡ declared_after m.first.declared event → BothAct m event (told m.first.declared event) turns next said → ServedThere v6 next
  serves_from false m next before turns said was asks same is acts =
      let here : before ≡ m.first = cc in
      (next.first, refl, acts.first.asked k asker (subst (λ (x : Moment). AsksAgain x.declared event k asker) here asks))
  serves_from true m next before turns said was asks same is acts =
      second_serves m.first.declared next.first before next.second acts.taken6 acts.inner6 asks is same.tied
      (subst (λ (o : Option Moment). SecondActs o (told m.first.declared event) acts.taken6 next.second acts.inner6) was acts.second)
