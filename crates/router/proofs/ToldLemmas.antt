-- What the second network is told may stand there, and both know the same after it.
use Rattle.std.proofs.Common.{◌≡◌, ℕ, zero, suc, ◌≤◌, ◌&&◌, ◌||◌, Bool, true, false, not, cond, List, [], ◌∷◌, map, Option, Some, None, is_none, nat_eq, nat_le, refl, sym, ap, subst, ◌∙◌, arith}
use Rattle.std.proofs.lemmas.Bool.Decides.{nat_tests}
use Rattle.addr4.specs.Hosts.{is_host}
use Rattle.bgp_attr.specs.Speakers.{Speaker}
use Rattle.bgp_attr.specs.declared.speaker.Profile.{Profile}
use Rattle.journal_text.specs.declared.line.Code.{Code}
use Rattle.event_text.specs.Event.{Event}
use Rattle.event_text.specs.declared.event.Event.TheVariants.{Nothing, Whole, Local, Peer, Up, Down, Bgp, Idle}
use Rattle.event_text.specs.declared.declared.DeclaredPeer.{DeclaredPeer}
use Rattle.event_text.specs.Declarations.{Declaration, peer_at, has_addr, to_peers, peer_refusal, session_refusal, undeclared, refusal, with_session, without_session, ended_at}
use Rattle.event_text.specs.WellFormed.{IsWellFormed}
use Rattle.event_text.proofs.Sessions.{Addable, addable_by}
use Rattle.live_state.specs.Declared.{declared_after, declared_up, declared_down, declared_heard}
use Rattle.live_state.specs.Messages.{ends_session}
use Rattle.router.specs.Ties.{AreTied, in_second, with_addr}
use Rattle.router.specs.Told.{told, told_up, told_down, told_message}
use Rattle.router.specs.Codes.{told_then, told_if_up, told_if_still}
use Rattle.router.specs.Laws.{SessionsEndInBoth, MayBeTold, ToldMayStand, ToldInTwo}

-- ---- a peer that may be declared
host_not_zero : (a : ℕ) → is_host false a ≡ true → nat_eq 0 a ≡ false
host_not_zero zero e = absurd (cc)
host_not_zero (suc n) e = grind (arith, nat_tests)

no_other : (client : Bool) (own : Bool) → (client ≡ true → own ≡ true) → (client && not own) ≡ false
no_other true own same = ap not (same refl)
no_other false own same = refl

-- the three tests of a declaration
may_declare : (taken other few : Bool) → taken ≡ false → other ≡ false → few ≡ true → (one two three : Option Code) → cond taken one (cond other two (cond few None three)) ≡ None
may_declare taken other few t o f one two three = rw t (rw o (rw f refl))

within : (k : ℕ) → k ≤ 64 → nat_le k 64 ≡ true
within k few = grind (arith, nat_tests)

-- what may be declared to a speaker, may be to one with the address 0, which no host has
declared6 : (me me6 : Speaker) (peers : List DeclaredPeer) (k : ℕ) (words : Speaker) (client : Bool) → me6.asn ≡ me.asn → me6.addr ≡ 0 → Addable me peers k words client → is_host false words.addr ≡ true
    → peer_refusal me6 peers k words client ≡ None
declared6 me me6 peers k words client asn addr a host =
    may_declare _ _ (nat_le k 64)
    (ap (λ o. not (is_none o) || (has_addr words.addr peers || nat_eq me6.addr words.addr)) a.absent ∙ (ap (λ b. b || nat_eq me6.addr words.addr) a.new ∙ (ap (λ x. nat_eq x words.addr) addr ∙ host_not_zero words.addr host)))
    (no_other client (nat_eq me6.asn words.asn) (λ is. ap (λ x. nat_eq x words.asn) asn ∙ a.own is))
    (within k a.few) _ _ _

-- ---- both by their parts
module _ (law : SessionsEndInBoth) (profile : Profile) (me : Speaker) (addr : ℕ) (peers : List DeclaredPeer) (spoken : profile.v6 ≡ true) where
  abbrev d : Declaration
  d = record { v6 = false; profile = profile; speaker = Some me; peers = peers }

  abbrev d6 : Declaration
  d6 = record { v6 = true; profile = in_second profile; speaker = Some (with_addr addr me); peers = peers }

  tied : (ps : List DeclaredPeer) → AreTied (record d { peers = ps }) (record d6 { peers = ps })
  tied ps = record { family = refl; spoken = spoken; profile = refl; me = me; addr = addr; speaker = refl; speaker6 = refl; peers = refl }

  -- it is told nothing, and what was declared stays
  none : (event : Event) → told d event ≡ Nothing → declared_after d event ≡ d → MayBeTold d d6 event
  unfolding refusal
  none event is stays = record {
    admitted = subst (λ e. refusal d6 e ≡ None) (sym is) refl;
    formed = subst (IsWellFormed true (in_second profile)) (sym is) tt;
    tied = subst (λ e. AreTied (declared_after d event) (declared_after d6 e)) (sym is) (subst (λ x. AreTied x d6) (sym stays) (tied peers));
  }

  up : (k : ℕ) (o : Option DeclaredPeer) (b : Bool) → peer_at k peers ≡ o → session_refusal o ≡ None → (p : DeclaredPeer) → o ≡ Some p → p.up ≡ b → IsWellFormed false profile (Up k) → MayBeTold d d6 (Up k)
  unfolding refusal
  up k o true at may p is was formed = none (Up k) (ap (told_up k) (at ∙ is) ∙ ap (λ u. cond u Nothing (Up k)) was) (ap (declared_up d k) (at ∙ is) ∙ ap (λ u. cond u d (with_session d k)) was)
  up k o false at may p is was formed =
      let says : told d (Up k) ≡ Up k = ap (told_up k) (at ∙ is) ∙ ap (λ u. cond u Nothing (Up k)) was in
      let then : declared_up d k (peer_at k peers) ≡ with_session d k = ap (declared_up d k) (at ∙ is) ∙ ap (λ u. cond u d (with_session d k)) was in
      let then6 : declared_up d6 k (peer_at k peers) ≡ with_session d6 k = ap (declared_up d6 k) (at ∙ is) ∙ ap (λ u. cond u d6 (with_session d6 k)) was in
      record {
        admitted = subst (λ e. refusal d6 e ≡ None) (sym says) (ap session_refusal at ∙ may);
        formed = subst (IsWellFormed true (in_second profile)) (sym says) formed;
        tied = subst (λ e. AreTied (declared_after d (Up k)) (declared_after d6 e)) (sym says) (subst (λ x. AreTied x (declared_up d6 k (peer_at k peers))) (sym then) (subst (AreTied (with_session d k)) (sym then6) (tied _)));
      }

  down : (k : ℕ) (event : Event) (p : DeclaredPeer) → peer_at k peers ≡ Some p → p.up ≡ true → told d event ≡ Down k → declared_after d event ≡ without_session d k → IsWellFormed true (in_second profile) (Down k) → MayBeTold d d6 event
  unfolding refusal
  down k event p at was says then formed =
      let then6 : declared_down d6 k (peer_at k peers) ≡ without_session d6 k = ap (declared_down d6 k) at ∙ ap (λ u. cond u (without_session d6 k) d6) was in
      record {
        admitted = subst (λ e. refusal d6 e ≡ None) (sym says) (ap undeclared at);
        formed = subst (IsWellFormed true (in_second profile)) (sym says) formed;
        tied = subst (λ e. AreTied (declared_after d event) (declared_after d6 e)) (sym says) (subst (λ x. AreTied x (declared_down d6 k (peer_at k peers))) (sym then) (subst (AreTied (without_session d k)) (sym then6) (tied _)));
      }

  down_by : (k : ℕ) (p : DeclaredPeer) (b : Bool) → peer_at k peers ≡ Some p → p.up ≡ b → IsWellFormed false profile (Down k) → MayBeTold d d6 (Down k)
  down_by k p true at was formed = down k (Down k) p at was (ap (told_down k) at ∙ ap (λ u. cond u (Down k) Nothing) was) (ap (declared_down d k) at ∙ ap (λ u. cond u (without_session d k) d) was) formed
  down_by k p false at was formed = none (Down k) (ap (told_down k) at ∙ ap (λ u. cond u (Down k) Nothing) was) (ap (declared_down d k) at ∙ ap (λ u. cond u (without_session d k) d) was)

  -- a message, by whether the peer is up, and whether it ends the session
  message : (k : ℕ) (octets : List ℕ) (p : DeclaredPeer) (b ends : Bool) → peer_at k peers ≡ Some p → p.up ≡ b → ends_session profile (not p.words.internal) octets ≡ ends → IsWellFormed false profile (Bgp k octets)
      → MayBeTold d d6 (Bgp k octets)
  unfolding refusal
  message k octets p false ends at was says formed =
      none (Bgp k octets) (ap (told_message d k octets) at ∙ ap (λ u. cond (not u) Nothing (cond (ends_session profile (not p.words.internal) octets) (Down k) (Bgp k octets))) was)
      (ap (declared_heard d k octets) at ∙ ap (λ u. cond (u && ends_session profile (not p.words.internal) octets) (without_session d k) d) was)
  message k octets p true true at was says formed =
      down k (Bgp k octets) p at was
      (ap (told_message d k octets) at ∙ (ap (λ u. cond (not u) Nothing (cond (ends_session profile (not p.words.internal) octets) (Down k) (Bgp k octets))) was ∙ ap (λ e. cond e (Down k) (Bgp k octets)) says))
      (ap (declared_heard d k octets) at ∙ (ap (λ u. cond (u && ends_session profile (not p.words.internal) octets) (without_session d k) d) was ∙ ap (λ e. cond e (without_session d k) d) says))
      formed.0
  message k octets p true false at was says formed =
      let told_it : told d (Bgp k octets) ≡ Bgp k octets = ap (told_message d k octets) at ∙ (ap (λ u. cond (not u) Nothing (cond (ends_session profile (not p.words.internal) octets) (Down k) (Bgp k octets))) was ∙ ap (λ e. cond e (Down k) (Bgp k octets)) says) in
      let then : declared_heard d k octets (peer_at k peers) ≡ d = ap (declared_heard d k octets) at ∙ (ap (λ u. cond (u && ends_session profile (not p.words.internal) octets) (without_session d k) d) was ∙ ap (λ e. cond e (without_session d k) d) says) in
      let then6 : declared_heard d6 k octets (peer_at k peers) ≡ d6 = ap (declared_heard d6 k octets) at ∙ (ap (λ u. cond (u && ends_session (in_second profile) (not p.words.internal) octets) (without_session d6 k) d6) was ∙ ap (λ e. cond e (without_session d6 k) d6) (law profile (not p.words.internal) octets ∙ says)) in
      record {
        admitted = subst (λ e. refusal d6 e ≡ None) (sym told_it) (ap undeclared at);
        formed = subst (IsWellFormed true (in_second profile)) (sym told_it) formed;
        tied = subst (λ e. AreTied (declared_after d (Bgp k octets)) (declared_after d6 e)) (sym told_it) (subst (λ x. AreTied x (declared_heard d6 k octets (peer_at k peers))) (sym then) (subst (AreTied d) (sym then6) (tied peers)));
      }

  by_peer : (k : ℕ) (octets : List ℕ) (o : Option DeclaredPeer) → peer_at k peers ≡ o → undeclared o ≡ None → IsWellFormed false profile (Bgp k octets) → MayBeTold d d6 (Bgp k octets)
  by_peer k octets None at there formed = absurd (cc)
  by_peer k octets (Some p) at there formed = message k octets p p.up (ends_session profile (not p.words.internal) octets) at refl refl formed

  down_peer : (k : ℕ) (o : Option DeclaredPeer) → peer_at k peers ≡ o → undeclared o ≡ None → IsWellFormed false profile (Down k) → MayBeTold d d6 (Down k)
  down_peer k None at there formed = absurd (cc)
  down_peer k (Some p) at there formed = down_by k p p.up at refl formed

  up_peer : (k : ℕ) (o : Option DeclaredPeer) → peer_at k peers ≡ o → session_refusal o ≡ None → IsWellFormed false profile (Up k) → MayBeTold d d6 (Up k)
  up_peer k None at there formed = absurd (cc)
  up_peer k (Some p) at there formed = up k (Some p) p.up at there p refl refl formed

  by_parts : (event : Event) → refusal d event ≡ None → IsWellFormed false profile event → MayBeTold d d6 event
  unfolding refusal
  by_parts Nothing admitted formed = none Nothing refl refl
  by_parts (Whole word) admitted formed = absurd (cc)
  by_parts (Local words) admitted formed = absurd (cc)
  by_parts (Peer k words client) admitted formed = record {
    admitted = declared6 me (to_peers true (with_addr addr me)) peers k words client refl refl (addable_by false me peers k words client admitted) formed.1.host;
    formed = formed;
    tied = tied _;
  }
  by_parts (Up k) admitted formed = up_peer k (peer_at k peers) refl admitted formed
  by_parts (Down k) admitted formed = down_peer k (peer_at k peers) refl admitted formed
  by_parts (Bgp k octets) admitted formed = by_peer k octets (peer_at k peers) refl admitted formed
  by_parts Idle admitted formed = record { admitted = refl; formed = tt; tied = tied peers }
  by_parts other admitted formed = none _ refl refl

-- declarations with the same parts are the same
pub one_declaration : (d : Declaration) (v6 : Bool) (profile : Profile) (speaker : Option Speaker) (peers : List DeclaredPeer) → d.v6 ≡ v6 → d.profile ≡ profile → d.speaker ≡ speaker → d.peers ≡ peers
    → record { v6 = v6; profile = profile; speaker = speaker; peers = peers } ≡ d
one_declaration d v6 profile speaker peers a b c e =
    subst (λ x. ◌≡◌ {A = Declaration} (record { v6 = x; profile = profile; speaker = speaker; peers = peers }) d) a
    (subst (λ x. ◌≡◌ {A = Declaration} (record { v6 = d.v6; profile = x; speaker = speaker; peers = peers }) d) b
    (subst (λ x. ◌≡◌ {A = Declaration} (record { v6 = d.v6; profile = d.profile; speaker = x; peers = peers }) d) c
    (subst (λ x. ◌≡◌ {A = Declaration} (record { v6 = d.v6; profile = d.profile; speaker = d.speaker; peers = x }) d) e refl)))

pub may_be_told : SessionsEndInBoth → ToldMayStand
may_be_told law d d6 event t first admitted formed =
    let is : record { v6 = false; profile = d.profile; speaker = Some t.me; peers = d.peers } ≡ d = one_declaration d false d.profile (Some t.me) d.peers first refl t.speaker refl in
    let is6 : record { v6 = true; profile = in_second d.profile; speaker = Some (with_addr t.addr t.me); peers = d.peers } ≡ d6 = one_declaration d6 true (in_second d.profile) (Some (with_addr t.addr t.me)) d.peers t.family t.profile t.speaker6 t.peers in
    subst (λ (x : Declaration). MayBeTold x d6 event) is
    (subst (λ (x : Declaration). MayBeTold (record { v6 = false; profile = d.profile; speaker = Some t.me; peers = d.peers }) x event) is6
    (by_parts law d.profile t.me t.addr d.peers t.spoken event (subst (λ (x : Declaration). refusal x event ≡ None) (sym is) admitted) formed))

-- ---- told in two
-- a peer whose session ended is down
none_up : (k : ℕ) (ps : List DeclaredPeer) (octets : List ℕ) → told_if_still k octets (peer_at k (map (ended_at k) ps)) ≡ Down k
none_up k [] octets = refl
none_up k (p ∷ ps) octets = by_number (nat_eq p.words.number k) refl (none_up k ps octets)
  where
    by_number : (b : Bool) → nat_eq p.words.number k ≡ b → told_if_still k octets (peer_at k (map (ended_at k) ps)) ≡ Down k → told_if_still k octets (peer_at k (map (ended_at k) (p ∷ ps))) ≡ Down k
    by_number true is rest = rw is (rw is refl)
    by_number false is rest = rw is (rw is rest)

module _ (d : Declaration) (k : ℕ) (octets : List ℕ) (p : DeclaredPeer) (at : peer_at k d.peers ≡ Some p) where
  in_two : (b ends : Bool) → p.up ≡ b → ends_session d.profile (not p.words.internal) octets ≡ ends
      → told_then (cond (p.up && ends_session d.profile (not p.words.internal) octets) (without_session d k) d) (cond p.up (Bgp k octets) Nothing) ≡ cond (not p.up) Nothing (cond (ends_session d.profile (not p.words.internal) octets) (Down k) (Bgp k octets))
  in_two false ends was says = rw was refl
  in_two true true was says = rw was (rw says (none_up k d.peers octets))
  in_two true false was says = rw was (rw says (rw at (rw was refl)))

message_in_two : (d : Declaration) (k : ℕ) (octets : List ℕ) (o : Option DeclaredPeer) → peer_at k d.peers ≡ o → told_then (declared_heard d k octets o) (told_if_up k octets o) ≡ told_message d k octets o
message_in_two d k octets None at = refl
message_in_two d k octets (Some p) at = in_two d k octets p at p.up (ends_session d.profile (not p.words.internal) octets) refl refl

-- an event that is no message is told at once
up_at_once : (d : Declaration) (k : ℕ) (o : Option DeclaredPeer) → told_then d (told_up k o) ≡ told_up k o
up_at_once d k None = refl
up_at_once d k (Some p) = by_up p.up
  where
    by_up : (b : Bool) → told_then d (cond b Nothing (Up k)) ≡ cond b Nothing (Up k)
    by_up true = refl
    by_up false = refl

down_at_once : (d : Declaration) (k : ℕ) (o : Option DeclaredPeer) → told_then d (told_down k o) ≡ told_down k o
down_at_once d k None = refl
down_at_once d k (Some p) = by_up p.up
  where
    by_up : (b : Bool) → told_then d (cond b (Down k) Nothing) ≡ cond b (Down k) Nothing
    by_up true = refl
    by_up false = refl

pub told_in_two : ToldInTwo
told_in_two d (Up k) = up_at_once (declared_after d (Up k)) k (peer_at k d.peers)
told_in_two d (Down k) = down_at_once (declared_after d (Down k)) k (peer_at k d.peers)
told_in_two d (Bgp k octets) = message_in_two d k octets (peer_at k d.peers) refl
told_in_two d other = refl
