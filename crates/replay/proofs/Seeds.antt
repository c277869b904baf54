-- No line of a seed is refused.
use Rattle.std.proofs.Common.{◌≡◌, ℕ, zero, suc, ◌+◌, ◌%◌, ◌<◌, ◌≤◌, ◌&&◌, Bool, true, false, not, cond, nat_eq, List, [], ◌∷◌, ◌++◌, map, length, Option, Some, None, is_some, Ok, refl, sym, ap, subst, ◌∙◌, arith, length-append}
use Rattle.std.specs.Prelude.{◌/◌, nat_lt}
use Rattle.std.specs.List.{AllByRecursion, flat_map}
use Rattle.std.proofs.lemmas.List.{length-map}
use Rattle.std.proofs.lemmas.Bool.Decides.{nat_tests}
use Rattle.bgp_attr.specs.Speakers.{Speaker}
use Rattle.bgp_attr.specs.declared.speaker.Neighbour.{Neighbour}
use Rattle.journal_text.specs.declared.line.Code.TheVariants.{E6}
use Rattle.event_text.specs.Event.{Event}
use Rattle.event_text.specs.declared.declared.DeclaredPeer.{DeclaredPeer}
use Rattle.bgp_attr.specs.declared.speaker.Profile.{Profile}
use Rattle.event_text.specs.Events.{read_event}
use Rattle.event_text.specs.FileLaws.{Ipv4LinesStay, Ipv4LinesMayStay}
use Rattle.event_text.specs.Declarations.{plain, Declaration, no_declaration, refusal, refusal_at, refusal_by, session_refusal, undeclared, rules_refusal, peer_at, begun_at, ended_at, with_session, without_session}
use Rattle.live_state.specs.Declared.{declared_after, declared_up, declared_down, declared_heard}
use Rattle.live_state.specs.Messages.{ends_session}
use Rattle.event_gen.specs.Draws.{next_draws, behind_draws}
use Rattle.event_gen.specs.Events as draws
use Rattle.event_gen.specs.Lines.{lines, announce_octets, withdraw_octets}
use Rattle.event_gen.specs.Readings.{AreReadAs, LinesAreRead, meanings, meant, opening_events}
use Rattle.event_gen.specs.declared.drawn.Work.{Work}
use Rattle.event_gen.specs.declared.drawn.Work.TheVariants as works
use Rattle.event_gen.specs.declared.drawn.Drawn.{Drawn}
use Rattle.event_gen.specs.declared.drawn.Drawn.TheVariants as drawn
use Rattle.check_run.specs.Lines.{lines_of, ended}
use Rattle.replay.specs.Judging.{verdict_from}
use Rattle.replay.specs.Answers.{SeedsAreAccepted}
use Rattle.replay.proofs.Accepted.{AreClean, clean_line, clean_lines, accepts_then}
use Rattle.command_line.specs.Commands.{most_events}

-- ---- the lines of a text whose lines are read

all_clean : (ls : List (List ℕ)) (es : List Event) → AreReadAs ls es → AreClean ls
all_clean [] [] h = tt
all_clean [] (e ∷ es) h = absurd h
all_clean (l ∷ ls) [] h = absurd h
all_clean (l ∷ ls) (e ∷ es) h = (clean_line plain l e h.0, all_clean ls es h.1)

lines_read : (ls : List (List ℕ)) (es : List Event) → AreReadAs ls es → lines_of (flat_map ended ls) ≡ ls
lines_read ls es h = clean_lines ls (all_clean ls es h)

-- ---- lines whose events may stand there

-- each event may stand behind those before it, and no line said something for the whole file
abbrev AreAdmitted : Declaration → List Event → Type 0
AreAdmitted d [] = Unit {0}
AreAdmitted d (e ∷ es) = (d.profile ≡ plain) × (refusal d e ≡ None) × AreAdmitted (declared_after d e) es

accepts_lines : Ipv4LinesStay → Ipv4LinesMayStay → (n : ℕ) (d : Declaration) (ls : List (List ℕ)) (es : List Event) → n + length ls ≤ 4294967296 → AreReadAs ls es → AreAdmitted d es → verdict_from n d ls ≡ None
accepts_lines reads stays n d [] es few h free = refl
accepts_lines reads stays n d (l ∷ ls) [] few h free = absurd h
accepts_lines reads stays n d (l ∷ ls) (e ∷ es) few h free =
    accepts_then reads stays n d l ls e (omega (arith, few)) (subst (λ (p : Profile). read_event p l ≡ Ok e) (sym free.0) h.0) free.1
    (accepts_lines reads stays (n + 1) (declared_after d e) ls es (omega (arith, few)) h.1 free.2)

-- ---- the events of a seed may

-- four peers are declared, and no session is beyond so many
record Ready (c : ℕ) (d : Declaration) : Type 0 where
  me : Speaker
  profile : d.profile ≡ plain
  speaker : d.speaker ≡ Some me
  known : (k : ℕ) → 1 ≤ k → k ≤ 4 → is_some (peer_at k d.peers) ≡ true
  few : AllByRecursion (λ (p : DeclaredPeer). p.session ≤ c) d.peers

known_map : (f : DeclaredPeer → DeclaredPeer) → ((p : DeclaredPeer) → (f p).words ≡ p.words) → (k : ℕ) (ps : List DeclaredPeer) → is_some (peer_at k (map f ps)) ≡ is_some (peer_at k ps)
known_map f keeps k [] = refl
known_map f keeps k (p ∷ ps) =
    ap (λ (w : Neighbour). is_some (cond (nat_eq w.number k) (Some (f p)) (peer_at k (map f ps)))) (keeps p) ∙ by (nat_eq p.words.number k) (known_map f keeps k ps)
  where
    by : (b : Bool) → is_some (peer_at k (map f ps)) ≡ is_some (peer_at k ps) → is_some (cond b (Some (f p)) (peer_at k (map f ps))) ≡ is_some (cond b (Some p) (peer_at k ps))
    by true later = refl
    by false later = later

few_map : (f : DeclaredPeer → DeclaredPeer) (c : ℕ) → ((p : DeclaredPeer) → p.session ≤ c → (f p).session ≤ suc c) → (ps : List DeclaredPeer) → AllByRecursion (λ (p : DeclaredPeer). p.session ≤ c) ps → AllByRecursion (λ (p : DeclaredPeer). p.session ≤ suc c) (map f ps)
few_map f c more [] h = tt
few_map f c more (p ∷ ps) h = (more p h.0, few_map f c more ps h.1)

few_more : (c : ℕ) (ps : List DeclaredPeer) → AllByRecursion (λ (p : DeclaredPeer). p.session ≤ c) ps → AllByRecursion (λ (p : DeclaredPeer). p.session ≤ suc c) ps
few_more c [] h = tt
few_more c (p ∷ ps) h = (omega (arith, h.0), few_more c ps h.1)

few_at : (c k : ℕ) (ps : List DeclaredPeer) (p : DeclaredPeer) → AllByRecursion (λ (q : DeclaredPeer). q.session ≤ c) ps → peer_at k ps ≡ Some p → p.session ≤ c
few_at c k [] p h e = absurd (let clash : ◌≡◌ {A = Option DeclaredPeer} None (Some p) = e in cc)
few_at c k (q ∷ ps) p h e = by (nat_eq q.words.number k) (few_at c k ps p h.1) e
  where
    by : (b : Bool) → (peer_at k ps ≡ Some p → p.session ≤ c) → cond b (Some q) (peer_at k ps) ≡ Some p → p.session ≤ c
    by true later is = let same : q ≡ p = cc in subst (λ (x : DeclaredPeer). x.session ≤ c) same h.0
    by false later is = later is

begun_words : (k : ℕ) (p : DeclaredPeer) → (begun_at k p).words ≡ p.words
begun_words k p = by (nat_eq p.words.number k && not p.up)
  where
    by : (b : Bool) → (cond b (record { words = p.words; session = p.session + 1; up = true }) p).words ≡ p.words
    by true = refl
    by false = refl

begun_few : (k c : ℕ) (p : DeclaredPeer) → p.session ≤ c → (begun_at k p).session ≤ suc c
begun_few k c p h = by (nat_eq p.words.number k && not p.up)
  where
    by : (b : Bool) → (cond b (record { words = p.words; session = p.session + 1; up = true }) p).session ≤ suc c
    by true = omega (arith, h)
    by false = omega (arith, h)

ended_words : (k : ℕ) (p : DeclaredPeer) → (ended_at k p).words ≡ p.words
ended_words k p = by (nat_eq p.words.number k)
  where
    by : (b : Bool) → (cond b (record { words = p.words; session = p.session; up = false }) p).words ≡ p.words
    by true = refl
    by false = refl

ended_few : (k c : ℕ) (p : DeclaredPeer) → p.session ≤ c → (ended_at k p).session ≤ suc c
ended_few k c p h = by (nat_eq p.words.number k)
  where
    by : (b : Bool) → (cond b (record { words = p.words; session = p.session; up = false }) p).session ≤ suc c
    by true = omega (arith, h)
    by false = omega (arith, h)

-- the peer of an event that is drawn is one of the four
abbrev IsOfFour : Drawn → Type 0
IsOfFour (drawn.Announce k x origin med) = (1 ≤ k) × (k ≤ 4)
IsOfFour (drawn.Withdraw k x) = (1 ≤ k) × (k ≤ 4)
IsOfFour (drawn.Down k) = (1 ≤ k) × (k ≤ 4)
IsOfFour (drawn.Up k) = (1 ≤ k) × (k ≤ 4)
IsOfFour (drawn.Prefer k n) = (1 ≤ k) × (k ≤ 4)
IsOfFour (drawn.AddHost k n) = Unit {0}
IsOfFour (drawn.DeleteHost k) = Unit {0}
IsOfFour (drawn.Work works.ReadRib n) = Unit {0}
IsOfFour (drawn.Work (works.Out k) n) = (1 ≤ k) × (k ≤ 4)
IsOfFour (drawn.Work (works.NextHops k) n) = (1 ≤ k) × (k ≤ 4)
IsOfFour (drawn.Work (works.Filter k) n) = (1 ≤ k) × (k ≤ 4)
IsOfFour drawn.Idle = Unit {0}

module _ (c : ℕ) (d : Declaration) (r : Ready c d) where
  stays : Ready (suc c) d
  stays = record { me = r.me; profile = r.profile; speaker = r.speaker; known = r.known; few = few_more c d.peers r.few }

  begins : (k : ℕ) → Ready (suc c) (with_session d k)
  begins k = record {
    me = r.me;
    profile = r.profile;
    speaker = r.speaker;
    known = λ j low high. known_map (begun_at k) (begun_words k) j d.peers ∙ r.known j low high;
    few = few_map (begun_at k) c (begun_few k c) d.peers r.few;
  }

  ends : (k : ℕ) → Ready (suc c) (without_session d k)
  ends k = record {
    me = r.me;
    profile = r.profile;
    speaker = r.speaker;
    known = λ j low high. known_map (ended_at k) (ended_words k) j d.peers ∙ r.known j low high;
    few = few_map (ended_at k) c (ended_few k c) d.peers r.few;
  }

  either : (b : Bool) (x y : Declaration) → Ready (suc c) x → Ready (suc c) y → Ready (suc c) (cond b x y)
  either true x y f g = f
  either false x y f g = g

  after_up : (k : ℕ) (o : Option DeclaredPeer) → Ready (suc c) (declared_up d k o)
  after_up k None = stays
  after_up k (Some p) = either p.up d (with_session d k) stays (begins k)

  after_down : (k : ℕ) (o : Option DeclaredPeer) → Ready (suc c) (declared_down d k o)
  after_down k None = stays
  after_down k (Some p) = either p.up (without_session d k) d (ends k) stays

  after_octets : (k : ℕ) (octets : List ℕ) (o : Option DeclaredPeer) → Ready (suc c) (declared_heard d k octets o)
  after_octets k octets None = stays
  after_octets k octets (Some p) = either (p.up && ends_session d.profile (not p.words.internal) octets) (without_session d k) d (ends k) stays

  -- behind each event that is drawn
  after : (e : Drawn) → Ready (suc c) (declared_after d (meant e))
  after (drawn.Announce k x origin med) = after_octets k (announce_octets k x origin med) (peer_at k d.peers)
  after (drawn.Withdraw k x) = after_octets k (withdraw_octets x) (peer_at k d.peers)
  after (drawn.Down k) = after_down k (peer_at k d.peers)
  after (drawn.Up k) = after_up k (peer_at k d.peers)
  after other = stays

  -- a declared peer
  there : (k : ℕ) → 1 ≤ k → k ≤ 4 → (p : DeclaredPeer) × (peer_at k d.peers ≡ Some p)
  there k low high = by (peer_at k d.peers) (r.known k low high)
    where
      by : (o : Option DeclaredPeer) → is_some o ≡ true → (p : DeclaredPeer) × (o ≡ Some p)
      by None e = absurd (let clash : false ≡ true = e in cc)
      by (Some p) e = (p, refl)

  is_declared : (k : ℕ) → 1 ≤ k → k ≤ 4 → undeclared (peer_at k d.peers) ≡ None
  is_declared k low high = ap undeclared (there k low high).1

  may_begin : (k : ℕ) → c < 65535 → 1 ≤ k → k ≤ 4 → session_refusal (peer_at k d.peers) ≡ None
  may_begin k below low high =
      let at = there k low high in
      let early : nat_eq at.0.session 65535 ≡ false = (let few = few_at c k d.peers at.0 r.few at.1 in grind (arith, nat_tests)) in
      ap session_refusal at.1 ∙ (ap (λ b. cond (not at.0.up && b) (Some E6) None) early ∙ by (not at.0.up))
    where
      by : (b : Bool) → cond (b && false) (Some E6) None ≡ None
      by true = refl
      by false = refl

  may : (e : Drawn) → c < 65535 → IsOfFour e → refusal_by d.v6 r.me d.peers (meant e) ≡ None
  may (drawn.Announce k x origin med) below h = is_declared k h.0 h.1
  may (drawn.Withdraw k x) below h = is_declared k h.0 h.1
  may (drawn.Down k) below h = is_declared k h.0 h.1
  may (drawn.Up k) below h = may_begin k below h.0 h.1
  may (drawn.Prefer k n) below h = ap (rules_refusal 1) (there k h.0 h.1).1
  may (drawn.AddHost k n) below h = refl
  may (drawn.DeleteHost k) below h = refl
  may (drawn.Work works.ReadRib n) below h = refl
  may (drawn.Work (works.Out k) n) below h = is_declared k h.0 h.1
  may (drawn.Work (works.NextHops k) n) below h = is_declared k h.0 h.1
  may (drawn.Work (works.Filter k) n) below h = is_declared k h.0 h.1
  may drawn.Idle below h = refl

  admits : (e : Drawn) → c < 65535 → IsOfFour e → refusal d (meant e) ≡ None
  unfolding refusal
  admits e below h = ap (λ (s : Option Speaker). refusal_at d.v6 d.profile s d.peers (meant e)) r.speaker ∙ may e below h

-- ---- the peers that are drawn
pick : (b : Bool) (x y : Drawn) → IsOfFour x → IsOfFour y → IsOfFour (cond b x y)
pick true x y f g = f
pick false x y f g = g

pick_work : (b : Bool) (x y : Work) (n : ℕ) → IsOfFour (drawn.Work x n) → IsOfFour (drawn.Work y n) → IsOfFour (drawn.Work (cond b x y) n)
pick_work true x y n f g = f
pick_work false x y n f g = g

peer_of_four : (x : ℕ) → (1 ≤ draws.peer_of (next_draws x)) × (draws.peer_of (next_draws x) ≤ 4)
peer_of_four x = (omega arith, omega arith)

work_of_four : (x n : ℕ) → IsOfFour (drawn.Work (draws.work_of (next_draws x)) n)
work_of_four x n =
    let d = next_draws x in
    let k = draws.peer_of d in
    let h = peer_of_four x in
    let third = cond (nat_eq (d.c % 4) 2) (works.NextHops k) (works.Filter k) in
    let second = cond (nat_eq (d.c % 4) 1) (works.Out k) third in
    pick_work (nat_eq (d.c % 4) 0) works.ReadRib second n tt (pick_work (nat_eq (d.c % 4) 1) (works.Out k) third n h (pick_work (nat_eq (d.c % 4) 2) (works.NextHops k) (works.Filter k) n h h))

other_of_four : (x : ℕ) → IsOfFour (draws.other_event (next_draws x))
other_of_four x =
    let d = next_draws x in
    let k = draws.peer_of d in
    let kind = draws.kind_of d in
    let h = peer_of_four x in
    let work = drawn.Work (draws.work_of d) (d.b % 8) in
    let add = drawn.AddHost k (1 + d.b % 8) in
    let prefer = drawn.Prefer k (100 + d.c % 2) in
    let fifth = cond (nat_eq kind 14) work drawn.Idle in
    let fourth = cond (nat_eq kind 13) (draws.host_event d) fifth in
    let third = cond (nat_eq kind 12) prefer fourth in
    let second = cond (nat_lt kind 12) (drawn.Up k) third in
    pick (nat_eq kind 9) (drawn.Down k) second h
    (pick (nat_lt kind 12) (drawn.Up k) third h
    (pick (nat_eq kind 12) prefer fourth h
    (pick (nat_eq kind 13) (draws.host_event d) fifth (pick (nat_eq (d.c % 2) 0) add (drawn.DeleteHost k) tt tt)
    (pick (nat_eq kind 14) work drawn.Idle (work_of_four x (d.b % 8)) tt))))

of_four : (x : ℕ) → IsOfFour (draws.event_of (next_draws x))
unfolding draws.event_of
of_four x =
    let d = next_draws x in
    let k = draws.peer_of d in
    let h = peer_of_four x in
    let withdraw = drawn.Withdraw k (draws.block_of d) in
    let second = cond (nat_lt (draws.kind_of d) 9) withdraw (draws.other_event d) in
    pick (nat_lt (draws.kind_of d) 7) (drawn.Announce k (draws.block_of d) (draws.origin_of (d.c % 3)) (d.c / 3 % 4)) second h
    (pick (nat_lt (draws.kind_of d) 9) withdraw (draws.other_event d) h (other_of_four x))

drawn_admitted : (n x c : ℕ) (d : Declaration) → Ready c d → c + n < 65535 → AreAdmitted d (map meant (draws.events_from n x ++ drawn.Idle ∷ []))
drawn_admitted zero x c d r few = (r.profile, admits c d r drawn.Idle (omega (arith, few)) tt, tt)
drawn_admitted (suc n) x c d r few =
    let e = draws.event_of (next_draws x) in
    (r.profile, admits c d r e (omega (arith, few)) (of_four x), drawn_admitted n (behind_draws x) (suc c) (declared_after d (meant e)) (after c d r e) (omega (arith, few)))

-- ---- behind the opening
abbrev after_all : Declaration → List Event → Declaration
after_all d [] = d
after_all d (e ∷ es) = after_all (declared_after d e) es

admitted_then : (d : Declaration) (xs ys : List Event) → AreAdmitted d xs → AreAdmitted (after_all d xs) ys → AreAdmitted d (xs ++ ys)
admitted_then d [] ys f g = g
admitted_then d (x ∷ xs) ys f g = (f.0, f.1, admitted_then (declared_after d x) xs ys f.2 g)

opening_admitted : AreAdmitted (no_declaration false) opening_events
unfolding refusal
opening_admitted = (refl, refl, (refl, refl, (refl, refl, (refl, refl, (refl, refl, (refl, refl, (refl, refl, (refl, refl, (refl, refl, (refl, refl, tt))))))))))

known_then : (k : ℕ) → 1 ≤ k → k ≤ 4 → is_some (peer_at k (after_all (no_declaration false) opening_events).peers) ≡ true
known_then zero low high = absurd (omega (arith, low))
known_then (suc zero) low high = refl
known_then (suc (suc zero)) low high = refl
known_then (suc (suc (suc zero))) low high = refl
known_then (suc (suc (suc (suc zero)))) low high = refl
known_then (suc (suc (suc (suc (suc k))))) low high = absurd (omega (arith, high))

opened : Ready 1 (after_all (no_declaration false) opening_events)
opened = record { me = _; profile = refl; speaker = refl; known = known_then; few = (omega arith, (omega arith, (omega arith, (omega arith, tt)))) }

admitted : (seed count : ℕ) → count ≤ most_events → AreAdmitted (no_declaration false) (meanings seed count)
admitted seed count few =
    admitted_then (no_declaration false) opening_events _ opening_admitted (drawn_admitted count seed 1 (after_all (no_declaration false) opening_events) opened (omega (arith, few)))

-- ---- all lines

same_length : (ls : List (List ℕ)) (es : List Event) → AreReadAs ls es → length ls ≡ length es
same_length [] [] h = refl
same_length [] (e ∷ es) h = absurd h
same_length (l ∷ ls) [] h = absurd h
same_length (l ∷ ls) (e ∷ es) h = omega (arith, same_length ls es h.1)

drawn_length : (n x : ℕ) → length (draws.events_from n x) ≡ n
drawn_length zero x = refl
drawn_length (suc n) x = omega (arith, drawn_length n (behind_draws x))

few_lines : (seed count : ℕ) → length (meanings seed count) ≡ count + 11
few_lines seed count = omega (arith, length-map (draws.events_from count seed ++ drawn.Idle ∷ []) meant, length-append (draws.events_from count seed) (drawn.Idle ∷ []), drawn_length count seed)

pub accepted : Ipv4LinesStay → Ipv4LinesMayStay → LinesAreRead → SeedsAreAccepted
accepted reads stays said seed count few =
    ap (verdict_from 1 (no_declaration false)) (lines_read (lines seed count) (meanings seed count) (said seed count))
    ∙ accepts_lines reads stays 1 (no_declaration false) (lines seed count) (meanings seed count) (omega (arith, few, same_length (lines seed count) (meanings seed count) (said seed count), few_lines seed count)) (said seed count) (admitted seed count few)
