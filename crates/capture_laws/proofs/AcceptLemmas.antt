-- Each line's event may stand where it does.
use Rattle.std.proofs.Common.{◌≡◌, ◌⊎◌, ⊎_elim, ℕ, zero, suc, ◌+◌, ◌-◌, ◌<◌, ◌≤◌, Bool, true, false, cond, not, ◌&&◌, ◌||◌, nat_eq, nat_le, nat_lt, List, [], ◌∷◌, ◌++◌, map, length, Option, Some, None, is_none, Ok, refl, sym, ap, subst, ◌∙◌, arith, length-append}
use Rattle.std.specs.Prelude.{slice_set, slice_index_or, ⊤}
use Rattle.std.specs.List.{position_or_len}
use Rattle.std.proofs.lemmas.Bool.Decides.{nat_tests}
use Rattle.std.proofs.lemmas.List.{length-set}
use Rattle.bgp_attr.specs.Speakers.{Speaker}
use Rattle.journal_text.specs.declared.line.Code.TheVariants.{E3, E6}
use Rattle.event_text.specs.Event.{Event}
use Rattle.event_text.specs.declared.event.Event.TheVariants as events
use Rattle.event_text.specs.declared.event.WholeFile.TheVariants.{As4}
use Rattle.event_text.specs.declared.declared.DeclaredPeer.{DeclaredPeer}
use Rattle.event_text.specs.Events.{read_event}
use Rattle.event_text.specs.Declarations.{Declaration, no_declaration, refusal, refusal_at, refusal_by, session_refusal, undeclared, has_addr, peer_at, begun_at, ended_at, words_of, with_speaker, with_peer, with_session, without_session}
use Rattle.mrt_reader.specs.Lines.{Line}
use Rattle.mrt_reader.specs.Lines as lines
use Rattle.mrt_reader.specs.Sessions.{Written, WrittenPeer, nothing_written, unseen, begun, ended, place_of}
use Rattle.mrt_reader.specs.Sessions as sessions
use Rattle.mrt_reader.specs.Order.{IsDeclared, IsForeign, IsSpeaker, Asks, AreInOrder, first_lines, FilesAreOpened, LinesAreInOrder, file_lines}
use Rattle.capture_laws.specs.Readings.{event_of_line, line_bytes, speaker, Declares, AreAccepted, LinesAreAccepted}
use Rattle.capture_laws.proofs.ReadingLemmas.{reads, as4_read, local_read}

-- ---- the peers of the lines are the peers of their events

-- The peers from a number on have these numbers and addresses, and no more sessions than lines `up`.
abbrev Match : ℕ → List WrittenPeer → List DeclaredPeer → Type 0
Match k [] [] = ⊤
Match k [] (q ∷ qs) = ⊥
Match k (p ∷ ps) [] = ⊥
Match k (p ∷ ps) (q ∷ qs) = (q.words.number ≡ k) × (q.words.addr ≡ p.addr) × (q.session ≤ p.sessions) × Match (k + 1) ps qs

other_number : (k j : ℕ) → j < k → nat_eq k j ≡ false
other_number k j below = grind (arith, nat_tests)

same_number : (k j : ℕ) → k ≡ j → nat_eq k j ≡ true
same_number k j e = grind (arith, nat_tests)

-- one peer more
match_more : (k : ℕ) (ps : List WrittenPeer) (qs : List DeclaredPeer) (p : WrittenPeer) (q : DeclaredPeer) → Match k ps qs → q.words.number ≡ k + length ps → q.words.addr ≡ p.addr → q.session ≤ p.sessions → Match k (ps ++ p ∷ []) (qs ++ q ∷ [])
match_more k [] [] p q m number addr few = (omega (arith, number), addr, few, tt)
match_more k [] (r ∷ qs) p q m number addr few = absurd m
match_more k (r ∷ ps) [] p q m number addr few = absurd m
match_more k (r ∷ ps) (s ∷ qs) p q m number addr few = (m.0, m.1, m.2, match_more (k + 1) ps qs p q m.3 (omega (arith, number)) addr few)

-- an earlier peer's session begins
begun_later : (k j : ℕ) (ps : List WrittenPeer) (qs : List DeclaredPeer) → j < k → Match k ps qs → Match k ps (map (begun_at j) qs)
begun_later k j [] [] below m = tt
begun_later k j [] (q ∷ qs) below m = absurd m
begun_later k j (p ∷ ps) [] below m = absurd m
begun_later k j (p ∷ ps) (q ∷ qs) below m =
    let other : nat_eq q.words.number j ≡ false = other_number q.words.number j (omega (arith, m.0, below)) in
    let same : q ≡ begun_at j q = sym (ap (λ b. cond (b && not q.up) (record { words = q.words; session = q.session + 1; up = true }) q) other) in
    let here : (q.words.number ≡ k) × (q.words.addr ≡ p.addr) × (q.session ≤ p.sessions) = (m.0, m.1, m.2) in
    let there : ((begun_at j q).words.number ≡ k) × ((begun_at j q).words.addr ≡ p.addr) × ((begun_at j q).session ≤ p.sessions) =
    subst (λ (x : DeclaredPeer). (x.words.number ≡ k) × (x.words.addr ≡ p.addr) × (x.session ≤ p.sessions)) same here in
    (there.0, there.1, there.2, begun_later (k + 1) j ps qs (omega (arith, below)) m.3)

begun_here : (j k : ℕ) (p : WrittenPeer) (q : DeclaredPeer) → q.words.number ≡ k → q.words.addr ≡ p.addr → q.session ≤ p.sessions → ((begun_at j q).words.number ≡ k) × ((begun_at j q).words.addr ≡ p.addr) × ((begun_at j q).session ≤ p.sessions + 1)
begun_here j k p q number addr few = by_test (nat_eq q.words.number j && not q.up)
  where
    new : Bool → DeclaredPeer
    new b = cond b (record { words = q.words; session = q.session + 1; up = true }) q

    by_test : (b : Bool) → ((new b).words.number ≡ k) × ((new b).words.addr ≡ p.addr) × ((new b).session ≤ p.sessions + 1)
    by_test true = (number, addr, omega (arith, few))
    by_test false = (number, addr, omega (arith, few))

-- the session of the peer at a place begins, by the line and by its event
match_begun : (k i : ℕ) (d : WrittenPeer) (ps : List WrittenPeer) (qs : List DeclaredPeer) → Match k ps qs → Match k (slice_set ps i (begun (slice_index_or ps i d))) (map (begun_at (k + i)) qs)
match_begun k i d [] [] m = tt
match_begun k i d [] (q ∷ qs) m = absurd m
match_begun k i d (p ∷ ps) [] m = absurd m
match_begun k zero d (p ∷ ps) (q ∷ qs) m =
    let here = begun_here (k + 0) k p q m.0 m.1 m.2 in
    (here.0, here.1, here.2, begun_later (k + 1) (k + 0) ps qs (omega arith) m.3)
match_begun k (suc i) d (p ∷ ps) (q ∷ qs) m =
    let same : k + suc i ≡ k + 1 + i = omega arith in
    let other : nat_eq q.words.number (k + suc i) ≡ false = (let number = m.0 in grind (arith, nat_tests)) in
    let stays : q ≡ begun_at (k + suc i) q = sym (ap (λ b. cond (b && not q.up) (record { words = q.words; session = q.session + 1; up = true }) q) other) in
    let here : (q.words.number ≡ k) × (q.words.addr ≡ p.addr) × (q.session ≤ p.sessions) = (m.0, m.1, m.2) in
    let there : ((begun_at (k + suc i) q).words.number ≡ k) × ((begun_at (k + suc i) q).words.addr ≡ p.addr) × ((begun_at (k + suc i) q).session ≤ p.sessions) =
    subst (λ (x : DeclaredPeer). (x.words.number ≡ k) × (x.words.addr ≡ p.addr) × (x.session ≤ p.sessions)) stays here in
    let later : Match (k + 1) (slice_set ps i (begun (slice_index_or ps i d))) (map (begun_at (k + suc i)) qs) =
    subst (λ (n : ℕ). Match (k + 1) (slice_set ps i (begun (slice_index_or ps i d))) (map (begun_at n) qs)) (sym same) (match_begun (k + 1) i d ps qs m.3) in
    (there.0, there.1, there.2, later)

-- and by the line alone
match_asked : (k i : ℕ) (d : WrittenPeer) (ps : List WrittenPeer) (qs : List DeclaredPeer) → Match k ps qs → Match k (slice_set ps i (begun (slice_index_or ps i d))) qs
match_asked k i d [] [] m = tt
match_asked k i d [] (q ∷ qs) m = absurd m
match_asked k i d (p ∷ ps) [] m = absurd m
match_asked k zero d (p ∷ ps) (q ∷ qs) m = let few = m.2 in (m.0, m.1, omega arith, m.3)
match_asked k (suc i) d (p ∷ ps) (q ∷ qs) m = (m.0, m.1, m.2, match_asked (k + 1) i d ps qs m.3)

-- a session ends, by the line
match_ended : (k i : ℕ) (d : WrittenPeer) (ps : List WrittenPeer) (qs : List DeclaredPeer) → Match k ps qs → Match k (slice_set ps i (ended (slice_index_or ps i d))) qs
match_ended k i d [] [] m = tt
match_ended k i d [] (q ∷ qs) m = absurd m
match_ended k i d (p ∷ ps) [] m = absurd m
match_ended k zero d (p ∷ ps) (q ∷ qs) m = (m.0, m.1, m.2, m.3)
match_ended k (suc i) d (p ∷ ps) (q ∷ qs) m = (m.0, m.1, m.2, match_ended (k + 1) i d ps qs m.3)

ended_here : (j k : ℕ) (p : WrittenPeer) (q : DeclaredPeer) → q.words.number ≡ k → q.words.addr ≡ p.addr → q.session ≤ p.sessions → ((ended_at j q).words.number ≡ k) × ((ended_at j q).words.addr ≡ p.addr) × ((ended_at j q).session ≤ p.sessions)
ended_here j k p q number addr few = by_test (nat_eq q.words.number j)
  where
    new : Bool → DeclaredPeer
    new b = cond b (record { words = q.words; session = q.session; up = false }) q

    by_test : (b : Bool) → ((new b).words.number ≡ k) × ((new b).words.addr ≡ p.addr) × ((new b).session ≤ p.sessions)
    by_test true = (number, addr, few)
    by_test false = (number, addr, few)

-- or by an event
match_closed : (k j : ℕ) (ps : List WrittenPeer) (qs : List DeclaredPeer) → Match k ps qs → Match k ps (map (ended_at j) qs)
match_closed k j [] [] m = tt
match_closed k j [] (q ∷ qs) m = absurd m
match_closed k j (p ∷ ps) [] m = absurd m
match_closed k j (p ∷ ps) (q ∷ qs) m =
    let here = ended_here j k p q m.0 m.1 m.2 in
    (here.0, here.1, here.2, match_closed (k + 1) j ps qs m.3)

-- ---- peers that are there, and those that are not

record Found (j most : ℕ) (qs : List DeclaredPeer) : Type 0 where
  peer : DeclaredPeer
  at : peer_at j qs ≡ Some peer
  few : peer.session ≤ most

found : (k i : ℕ) (d : WrittenPeer) (ps : List WrittenPeer) (qs : List DeclaredPeer) → Match k ps qs → i < length ps → Found (k + i) (slice_index_or ps i d).sessions qs
found k i d [] [] m within = absurd (omega (arith, within))
found k i d [] (q ∷ qs) m within = absurd m
found k i d (p ∷ ps) [] m within = absurd m
found k zero d (p ∷ ps) (q ∷ qs) m within =
    let is : nat_eq q.words.number (k + 0) ≡ true = same_number q.words.number (k + 0) (omega (arith, m.0)) in
    record { peer = q; at = ap (λ b. cond b (Some q) (peer_at (k + 0) qs)) is; few = m.2 }
found k (suc i) d (p ∷ ps) (q ∷ qs) m within =
    let f = found (k + 1) i d ps qs m.3 (omega (arith, within)) in
    let same : k + 1 + i ≡ k + suc i = omega arith in
    let other : nat_eq q.words.number (k + suc i) ≡ false = (let number = m.0 in grind (arith, nat_tests)) in
    record {
      peer = f.peer;
      at = ap (λ b. cond b (Some q) (peer_at (k + suc i) qs)) other ∙ subst (λ (n : ℕ). peer_at n qs ≡ Some f.peer) same f.at;
      few = f.few;
    }

no_peer : (k j : ℕ) (ps : List WrittenPeer) (qs : List DeclaredPeer) → Match k ps qs → k + length ps ≤ j → peer_at j qs ≡ None
no_peer k j [] [] m beyond = refl
no_peer k j [] (q ∷ qs) m beyond = absurd m
no_peer k j (p ∷ ps) [] m beyond = absurd m
no_peer k j (p ∷ ps) (q ∷ qs) m beyond =
    let other : nat_eq q.words.number j ≡ false = (let number = m.0 in grind (arith, nat_tests)) in
    ap (λ b. cond b (Some q) (peer_at j qs)) other ∙ no_peer (k + 1) j ps qs m.3 (omega (arith, beyond))

-- no peer has this address
abbrev AreOthers : ℕ → List WrittenPeer → Type 0
AreOthers addr [] = ⊤
AreOthers addr (p ∷ ps) = (nat_eq p.addr addr ≡ false) × AreOthers addr ps

no_addr : (k addr : ℕ) (ps : List WrittenPeer) (qs : List DeclaredPeer) → Match k ps qs → AreOthers addr ps → has_addr addr qs ≡ false
no_addr k addr [] [] m others = refl
no_addr k addr [] (q ∷ qs) m others = absurd m
no_addr k addr (p ∷ ps) [] m others = absurd m
no_addr k addr (p ∷ ps) (q ∷ qs) m others =
    ap (λ (a : ℕ). nat_eq a addr || has_addr addr qs) m.1 ∙ (ap (λ b. b || has_addr addr qs) others.0 ∙ no_addr (k + 1) addr ps qs m.3 others.1)

place_past : (addr : ℕ) (ps : List WrittenPeer) → nat_lt (position_or_len (λ p. nat_eq p.addr addr) ps) (length ps) ≡ false → AreOthers addr ps
place_past addr [] e = tt
place_past addr (p ∷ ps) e = by_test (nat_eq p.addr addr) refl e (place_past addr ps)
  where
    n : ℕ
    n = position_or_len (λ (q : WrittenPeer). nat_eq q.addr addr) ps

    by_test : (b : Bool) → nat_eq p.addr addr ≡ b → nat_lt (cond (not b) (1 + n) 0) (length (p ∷ ps)) ≡ false → (nat_lt n (length ps) ≡ false → AreOthers addr ps) → (nat_eq p.addr addr ≡ false) × AreOthers addr ps
    by_test true is f later = absurd (let clash : length (p ∷ ps) ≤ 0 = grind (arith, nat_tests) in omega (arith, clash))
    by_test false is f later =
        let past : length (p ∷ ps) ≤ 1 + n = grind (arith, nat_tests) in
        let behind : nat_lt n (length ps) ≡ false = grind (arith, nat_tests) in
        (is, later behind)

others : (addr : ℕ) (ps : List WrittenPeer) → place_of addr ps ≡ None → AreOthers addr ps
others addr ps e = place_past addr ps (by_test (nat_lt (position_or_len (λ p. nat_eq p.addr addr) ps) (length ps)) e)
  where
    by_test : (b : Bool) → cond b (Some (position_or_len (λ (p : WrittenPeer). nat_eq p.addr addr) ps)) None ≡ None → b ≡ false
    by_test true f = absurd (cc)
    by_test false f = refl

-- ---- what was declared agrees with what was written

record Agrees (as4 : Bool) (w : Written) (d : Declaration) : Type 0 where
  me : Speaker
  first : d.v6 ≡ false
  wide : d.profile.as4 ≡ as4
  speaker_is : d.speaker ≡ Some me
  local_is : w.local ≡ Some me.addr
  few : length w.peers ≤ 64
  peers : Match 1 w.peers d.peers

begun_written : (w : Written) (local : ℕ) → w.local ≡ Some local → w ≡ nothing_written → ⊥
begun_written w local e is = let clash : Some local ≡ None = sym e ∙ ap (λ v. v.local) is in cc

foreign_to : (addr : ℕ) (local : Option ℕ) (me : ℕ) → local ≡ Some me → IsForeign addr local → nat_eq me addr ≡ false
foreign_to addr None me e f = absurd f
foreign_to addr (Some local) me e f = let same : local ≡ me = cc in subst (λ (n : ℕ). nat_eq n addr ≡ false) same f

free : (a b c : Bool) → a ≡ true → b ≡ false → c ≡ false → (not a || (b || c)) ≡ false
free a b c ha hb hc = cc

-- the event of a line may stand there
module _ (as4 : Bool) (w : Written) (d : Declaration) (g : Agrees as4 w d) where
  there : (k : ℕ) → IsDeclared w k → Found k (slice_index_or w.peers (k - 1) (unseen 0)).sessions d.peers
  there k is =
      let f = found 1 (k - 1) (unseen 0) w.peers d.peers g.peers (omega (arith, is.least, is.most)) in
      let same : 1 + (k - 1) ≡ k = omega (arith, is.least) in
      subst (λ (n : ℕ). Found n (slice_index_or w.peers (k - 1) (unseen 0)).sessions d.peers) same f

  is_declared : (k : ℕ) → IsDeclared w k → undeclared (peer_at k d.peers) ≡ None
  is_declared k is = ap undeclared (there k is).at

  may_begin : (k : ℕ) → IsDeclared w k → (slice_index_or w.peers (k - 1) (unseen 0)).sessions < 65535 → session_refusal (peer_at k d.peers) ≡ None
  may_begin k is below =
      let f = there k is in
      let few = f.few in
      let early : nat_eq f.peer.session 65535 ≡ false = grind (arith, nat_tests) in
      ap session_refusal f.at ∙ (ap (λ b. cond (not f.peer.up && b) (Some E6) None) early ∙ by_test (not f.peer.up))
    where
      by_test : (b : Bool) → cond (b && false) (Some E6) None ≡ None
      by_test true = refl
      by_test false = refl

  may_declare : (k asn addr : ℕ) → k ≡ length w.peers + 1 → k ≤ 64 → place_of addr w.peers ≡ None → IsForeign addr w.local → refusal_by false g.me d.peers (events.Peer k (speaker asn addr) false) ≡ None
  may_declare k asn addr next few new foreign =
      let number : is_none (peer_at k d.peers) ≡ true = ap is_none (no_peer 1 k w.peers d.peers g.peers (omega (arith, next))) in
      let address : has_addr addr d.peers ≡ false = no_addr 1 addr w.peers d.peers g.peers (others addr w.peers new) in
      let local : nat_eq g.me.addr addr ≡ false = foreign_to addr w.local g.me.addr g.local_is foreign in
      let within : nat_le k 64 ≡ true = grind (arith, nat_tests) in
      ap (λ b. cond b (Some E3) (cond (nat_le k 64) None (Some E6))) (free (is_none (peer_at k d.peers)) (has_addr addr d.peers) (nat_eq g.me.addr addr) number address local)
      ∙ ap (λ b. cond b None (Some E6)) within

  may_by : (l : Line) → Asks as4 w l → refusal_by false g.me d.peers (event_of_line l) ≡ None
  may_by lines.As4 asks = absurd (begun_written w g.me.addr g.local_is asks.1)
  may_by (lines.Local asn addr) asks = absurd (begun_written w g.me.addr g.local_is asks.0)
  may_by (lines.Peer k asn addr) asks = may_declare k asn addr asks.0 asks.1 asks.2 asks.3
  may_by (lines.Up k) asks = may_begin k asks.0 asks.2
  may_by (lines.Down k) asks = is_declared k asks.0
  may_by (lines.Bgp k octets) asks = is_declared k asks.0
  may_by lines.Idle asks = refl

  may : (l : Line) → Asks as4 w l → refusal d (event_of_line l) ≡ None
  unfolding refusal
  may l asks = ap (λ (v6 : Bool). refusal_at v6 d.profile d.speaker d.peers (event_of_line l)) g.first ∙ ap (λ (s : Option Speaker). refusal_at false d.profile s d.peers (event_of_line l)) g.speaker_is ∙ may_by l asks

  is_read : (l : Line) → Asks as4 w l → read_event d.profile (line_bytes l) ≡ Ok (event_of_line l)
  is_read l asks = reads d.profile w l g.few (subst (λ (b : Bool). Asks b w l) (sym g.wide) asks)

  -- ---- and behind it they agree again

  same_sessions : (ps : List WrittenPeer) (qs : List DeclaredPeer) → length ps ≤ 64 → Match 1 ps qs → Agrees as4 (record { local = w.local; peers = ps }) (record { v6 = d.v6; profile = d.profile; speaker = d.speaker; peers = qs })
  same_sessions ps qs few m = record { me = g.me; first = g.first; wide = g.wide; speaker_is = g.speaker_is; local_is = g.local_is; few = few; peers = m }

  one_peer_more : (k asn addr : ℕ) → k ≡ length w.peers + 1 → k ≤ 64 → Agrees as4 (sessions.after w (lines.Peer k asn addr)) (with_peer d k (speaker asn addr) false)
  one_peer_more k asn addr next few =
      same_sessions (w.peers ++ unseen addr ∷ []) (d.peers ++ record { words = words_of d.speaker k (speaker asn addr) false; session = 0; up = false } ∷ [])
      (omega (arith, next, few, length-append w.peers (unseen addr ∷ [])))
      (match_more 1 w.peers d.peers (unseen addr) (record { words = words_of d.speaker k (speaker asn addr) false; session = 0; up = false }) g.peers (omega (arith, next)) refl (omega arith))

module _ (after : Declaration → Event → Declaration) (makes : Declares after) (as4 : Bool) where
  either : (w : Written) (d x y : Declaration) → (d ≡ x) ⊎ (d ≡ y) → Agrees as4 w x → Agrees as4 w y → Agrees as4 w d
  either w d x y one f h = ⊎_elim (λ (e : d ≡ x). subst (Agrees as4 w) (sym e) f) (λ (e : d ≡ y). subst (Agrees as4 w) (sym e) h) one

  agrees_behind : (w : Written) (d : Declaration) → (g : Agrees as4 w d) → (l : Line) → Asks as4 w l → Agrees as4 (sessions.after w l) (after d (event_of_line l))
  agrees_behind w d g lines.As4 asks = absurd (begun_written w g.me.addr g.local_is asks.1)
  agrees_behind w d g (lines.Local asn addr) asks = absurd (begun_written w g.me.addr g.local_is asks.0)
  agrees_behind w d g (lines.Peer k asn addr) asks = subst (Agrees as4 (sessions.after w (lines.Peer k asn addr))) (sym (makes.peer d k (speaker asn addr))) (one_peer_more as4 w d g k asn addr asks.0 asks.1)
  agrees_behind w d g (lines.Up k) asks =
      let ps = slice_set w.peers (k - 1) (begun (slice_index_or w.peers (k - 1) (unseen 0))) in
      let few : length ps ≤ 64 = omega (arith, g.few, length-set w.peers (k - 1) (begun (slice_index_or w.peers (k - 1) (unseen 0)))) in
      let number : 1 + (k - 1) ≡ k = omega (arith, asks.0.least) in
      either (sessions.after w (lines.Up k)) (after d (events.Up k)) d (with_session d k) (makes.up d k)
      (same_sessions as4 w d g ps d.peers few (match_asked 1 (k - 1) (unseen 0) w.peers d.peers g.peers))
      (same_sessions as4 w d g ps (map (begun_at k) d.peers) few (subst (λ (n : ℕ). Match 1 ps (map (begun_at n) d.peers)) number (match_begun 1 (k - 1) (unseen 0) w.peers d.peers g.peers)))
  agrees_behind w d g (lines.Down k) asks =
      let ps = slice_set w.peers (k - 1) (ended (slice_index_or w.peers (k - 1) (unseen 0))) in
      let few : length ps ≤ 64 = omega (arith, g.few, length-set w.peers (k - 1) (ended (slice_index_or w.peers (k - 1) (unseen 0)))) in
      let m = match_ended 1 (k - 1) (unseen 0) w.peers d.peers g.peers in
      either (sessions.after w (lines.Down k)) (after d (events.Down k)) d (without_session d k) (makes.down d k)
      (same_sessions as4 w d g ps d.peers few m)
      (same_sessions as4 w d g ps (map (ended_at k) d.peers) few (match_closed 1 k ps d.peers m))
  agrees_behind w d g (lines.Bgp k octets) asks =
      either w (after d (events.Bgp k octets)) d (without_session d k) (makes.bgp d k octets) g (same_sessions as4 w d g w.peers (map (ended_at k) d.peers) g.few (match_closed 1 k w.peers d.peers g.peers))
  agrees_behind w d g lines.Idle asks = subst (Agrees as4 w) (sym (makes.idle d)) g

  accepted : (w : Written) (d : Declaration) (ls : List Line) → Agrees as4 w d → AreInOrder as4 w ls → AreAccepted after d ls
  accepted w d [] g order = tt
  accepted w d (l ∷ ls) g order =
      (is_read as4 w d g l order.0, may as4 w d g l order.0, accepted (sessions.after w l) (after d (event_of_line l)) ls (agrees_behind w d g l order.0) order.1)

  -- behind `local` they agree
  opens : (d : Declaration) (asn addr : ℕ) (more : List Line) → d.v6 ≡ false → d.profile.as4 ≡ as4 → d.speaker ≡ None → d.peers ≡ [] → IsSpeaker as4 asn addr → AreInOrder as4 (sessions.after nothing_written (lines.Local asn addr)) more → AreAccepted after d (lines.Local asn addr ∷ more)
  unfolding refusal
  opens d asn addr more family wide first none is order =
      let me = speaker asn addr in
      let agrees : Agrees as4 (sessions.after nothing_written (lines.Local asn addr)) (with_speaker d me) = record {
        me = me;
        first = family;
        wide = wide;
        speaker_is = refl;
        local_is = refl;
        few = omega arith;
        peers = subst (Match 1 []) (sym none) tt;
      } in (
        local_read d.profile asn addr (subst (λ (b : Bool). IsSpeaker b asn addr) (sym wide) is),
        ap (λ (v6 : Bool). refusal_at v6 d.profile d.speaker d.peers (events.Local me)) family ∙ ap (λ (s : Option Speaker). refusal_at false d.profile s d.peers (events.Local me)) first,
        accepted (sessions.after nothing_written (lines.Local asn addr)) (after d (events.Local me)) more (subst (Agrees as4 (sessions.after nothing_written (lines.Local asn addr))) (sym (makes.local d me)) agrees) order,
      )

opening_accepted : (after : Declaration → Event → Declaration) → Declares after → (as4 : Bool) (asn addr : ℕ) (more : List Line) → AreInOrder as4 nothing_written (first_lines as4 asn addr ++ more) → AreAccepted after (no_declaration false) (first_lines as4 asn addr ++ more)
unfolding refusal
opening_accepted after makes false asn addr more order = opens after makes false (no_declaration false) asn addr more refl refl refl refl order.0.1 order.1
opening_accepted after makes true asn addr more order =
    let e = makes.as4 (no_declaration false) in (
      as4_read (no_declaration false).profile,
      refl,
      opens after makes true (after (no_declaration false) (events.Whole As4)) asn addr more (ap (λ d. d.v6) e) (ap (λ d. d.profile.as4) e) (ap (λ d. d.speaker) e) (ap (λ d. d.peers) e) order.1.0.1 order.1.1,
    )

pub all_accepted : FilesAreOpened → LinesAreInOrder → LinesAreAccepted
all_accepted opened order after makes as4 records bytes = ⊎_elim none some (opened as4 records)
  where
    none : file_lines as4 records ≡ [] → AreAccepted after (no_declaration false) (file_lines as4 records)
    none e = subst (AreAccepted after (no_declaration false)) (sym e) tt

    some : (asn addr : ℕ) × (more : List Line) × (file_lines as4 records ≡ first_lines as4 asn addr ++ more) → AreAccepted after (no_declaration false) (file_lines as4 records)
    some o = subst (AreAccepted after (no_declaration false)) (sym o.3) (opening_accepted after makes as4 o.0 o.1 o.2 (subst (AreInOrder as4 nothing_written) o.3 (order as4 records bytes)))
