-- Sessions of the peers.
use Rattle.std.proofs.Common.{◌≡◌, ℕ, ◌+◌, ◌≤◌, ◌<◌, Bool, true, false, not, ◌&&◌, ◌||◌, List, [], ◌∷◌, ◌++◌, map, Option, Some, None, is_none, nat_eq, nat_le, cond, refl, ap, subst, ◌∙◌, arith, length, take, drop, zero, suc}
use Rattle.std.proofs.lemmas.Grind.{common_steps}
use Rattle.std.proofs.lemmas.Bool.Decides.{nat_tests}
use Rattle.std.specs.List.{All}
use Rattle.bgp_attr.specs.Speakers.{Speaker}
use Rattle.bgp_attr.specs.declared.speaker.Profile.{Profile}
use Rattle.journal_text.specs.declared.line.Code.TheVariants.{E3, E6, E8}
use Rattle.event_text.specs.declared.event.Event.TheVariants as events
use Rattle.event_text.specs.declared.declared.DeclaredPeer.{DeclaredPeer}
use Rattle.event_text.specs.Declarations.{peer_at, has_addr, is_taken, to_peers, peer_refusal, refusal, refusal_by, IsCounted, begun_at, ended_at, session_refusal}

pub All-from_counted : (ps : List DeclaredPeer) → IsCounted ps → All (λ p. p.session ≤ 65535) ps
All-from_counted [] counted k d below = absurd (omega arith)
All-from_counted (p ∷ ps) counted zero d below = counted.0
All-from_counted (p ∷ ps) counted (suc k) d below = All-from_counted ps counted.2 k d (omega (arith, below))

-- ---- one more peer
three_tests : (a b c : Bool) → cond a (Some E3) (cond b (Some E8) (cond c None (Some E6))) ≡ None → (a ≡ false) × (b ≡ false) × (c ≡ true)
three_tests true b c e = absurd (cc)
three_tests false true c e = absurd (cc)
three_tests false false true e = (refl, refl, refl)
three_tests false false false e = absurd (cc)

of_own : (client own : Bool) → (client && not own) ≡ false → client ≡ true → own ≡ true
of_own client true e is = refl
of_own true false e is = absurd (cc)
of_own false false e is = absurd (cc)

left_false : (a b : Bool) → (a || b) ≡ false → a ≡ false
left_false true b e = absurd (cc)
left_false false b e = refl

right_false : (a b : Bool) → (a || b) ≡ false → b ≡ false
right_false true b e = absurd (cc)
right_false false b e = e

none_there : (o : Option DeclaredPeer) → not (is_none o) ≡ false → o ≡ None
none_there None e = refl
none_there (Some p) e = absurd (cc)

-- what it takes that a peer is declared
pub record Addable (local : Speaker) (peers : List DeclaredPeer) (k : ℕ) (words : Speaker) (client : Bool) : Type 0 where
  pub few : k ≤ 64
  pub absent : peer_at k peers ≡ None
  pub new : has_addr words.addr peers ≡ false
  pub foreign : nat_eq local.addr words.addr ≡ false
  pub own : client ≡ true → nat_eq local.asn words.asn ≡ true

by_words : (local : Speaker) (peers : List DeclaredPeer) (k : ℕ) (words : Speaker) (client : Bool) → peer_refusal local peers k words client ≡ None → Addable local peers k words client
by_words local peers k words client e =
    let t = three_tests (is_taken local peers k words) (client && not (nat_eq local.asn words.asn)) (nat_le k 64) e in
    let rest = right_false (not (is_none (peer_at k peers))) (has_addr words.addr peers || nat_eq local.addr words.addr) t.0 in
    record {
      few = grind (arith, nat_tests);
      absent = none_there _ (left_false _ _ t.0);
      new = left_false _ _ rest;
      foreign = right_false _ _ rest;
      own = of_own client (nat_eq local.asn words.asn) t.1;
    }

pub addable_by : (v6 : Bool) (local : Speaker) (peers : List DeclaredPeer) (k : ℕ) (words : Speaker) (client : Bool) → refusal_by v6 local peers (events.Peer k words client) ≡ None → Addable (to_peers v6 local) peers k words client
addable_by v6 local peers k words client e = by_words (to_peers v6 local) peers k words client e

pub addable : (v6 : Bool) (profile : Profile) (speaker : Option Speaker) (peers : List DeclaredPeer) (k : ℕ) (words : Speaker) (client : Bool) → refusal (record { v6 = v6; profile = profile; speaker = speaker; peers = peers }) (events.Peer k words client) ≡ None → (k ≤ 64) × (peer_at k peers ≡ None)
unfolding refusal
addable v6 profile None peers k words client e = absurd (cc)
addable v6 profile (Some local) peers k words client e = let a = addable_by v6 local peers k words client e in (a.few, a.absent)

pub missed : (b : Bool) (p : DeclaredPeer) (o : Option DeclaredPeer) → cond b (Some p) o ≡ None → (b ≡ false) × (o ≡ None)
missed true p o e = absurd (cc)
missed false p o e = (refl, e)

pub peer_at_push : (k : ℕ) (ps : List DeclaredPeer) (q : DeclaredPeer) → peer_at k ps ≡ None → nat_eq q.words.number k ≡ false → peer_at k (ps ++ q ∷ []) ≡ None
peer_at_push k [] q none other = ap (λ b. cond b (Some q) None) other
peer_at_push k (p ∷ ps) q none other =
    let m = missed (nat_eq p.words.number k) p (peer_at k ps) none in
    ap (λ b. cond b (Some p) (peer_at k (ps ++ q ∷ []))) m.0 ∙ peer_at_push k ps q m.1 other

other_way : (a b : ℕ) → nat_eq a b ≡ false → nat_eq b a ≡ false
other_way a b e = grind (arith, nat_tests)

pub counted_push : (ps : List DeclaredPeer) (q : DeclaredPeer) → IsCounted ps → peer_at q.words.number ps ≡ None → q.session ≤ 65535 → IsCounted (ps ++ q ∷ [])
counted_push [] q counted none low = (low, refl, tt)
counted_push (p ∷ ps) q counted none low =
    let m = missed (nat_eq p.words.number q.words.number) p (peer_at q.words.number ps) none in
    (counted.0, peer_at_push p.words.number ps q counted.1 (other_way p.words.number q.words.number m.0), counted_push ps q counted.2 m.1 low)

-- ---- peers that keep their words
abbrev pub KeepsWords : (DeclaredPeer → DeclaredPeer) → Type 0
KeepsWords f = (p : DeclaredPeer) → (f p).words ≡ p.words

abbrev pub StaysLow : (DeclaredPeer → DeclaredPeer) → List DeclaredPeer → Type 0
StaysLow f [] = Unit {0}
StaysLow f (p ∷ ps) = ((f p).session ≤ 65535) × StaysLow f ps

pub peer_at_none : (f : DeclaredPeer → DeclaredPeer) → KeepsWords f → (k : ℕ) (ps : List DeclaredPeer) → peer_at k ps ≡ None → peer_at k (map f ps) ≡ None
peer_at_none f keeps k [] none = refl
peer_at_none f keeps k (p ∷ ps) none =
    let m = missed (nat_eq p.words.number k) p (peer_at k ps) none in
    ap (λ b. cond b (Some (f p)) (peer_at k (map f ps))) (ap (λ w. nat_eq w.number k) (keeps p) ∙ m.0) ∙ peer_at_none f keeps k ps m.1

pub counted_map : (f : DeclaredPeer → DeclaredPeer) → KeepsWords f → (ps : List DeclaredPeer) → IsCounted ps → StaysLow f ps → IsCounted (map f ps)
counted_map f keeps [] counted low = tt
counted_map f keeps (p ∷ ps) counted low =
    (low.0, ap (λ w. peer_at w.number (map f ps)) (keeps p) ∙ peer_at_none f keeps p.words.number ps counted.1, counted_map f keeps ps counted.2 low.1)

-- ---- a session begins
chosen_words : (b : Bool) (p q : DeclaredPeer) → q.words ≡ p.words → (cond b q p).words ≡ p.words
chosen_words true p q e = e
chosen_words false p q e = refl

pub begun_words : (k : ℕ) → KeepsWords (begun_at k)
begun_words k p = chosen_words (nat_eq p.words.number k && not p.up) p (record { words = p.words; session = p.session + 1; up = true }) refl

pub ended_words : (k : ℕ) → KeepsWords (ended_at k)
ended_words k p = chosen_words (nat_eq p.words.number k) p (record { words = p.words; session = p.session; up = false }) refl

-- a session that a peer may begin is not beyond the last
abbrev pub MayBegin : ℕ → List DeclaredPeer → Type 0
MayBegin k ps = (p : DeclaredPeer) → peer_at k ps ≡ Some p → p.up ≡ false → p.session < 65535

may_by : (up last : Bool) → cond (not up && last) (Some E6) None ≡ None → up ≡ false → last ≡ false
may_by true last e down = absurd (cc)
may_by false true e down = absurd (cc)
may_by false false e down = refl

pub may_begin : (k : ℕ) (ps : List DeclaredPeer) → IsCounted ps → session_refusal (peer_at k ps) ≡ None → MayBegin k ps
may_begin k ps counted e p found down =
    let e' : session_refusal (Some p) ≡ None = subst (λ o. session_refusal o ≡ None) found e in
    let other = may_by p.up (nat_eq p.session 65535) e' down in
    let low = found_low k ps counted p found in
    grind (arith, nat_tests)
  where
    some_is : (p q : DeclaredPeer) → Some p ≡ Some q → p ≡ q
    some_is p q e = cc

    found_by : (b : Bool) (q p : DeclaredPeer) (o : Option DeclaredPeer) → cond b (Some q) o ≡ Some p → q.session ≤ 65535 → (o ≡ Some p → p.session ≤ 65535) → p.session ≤ 65535
    found_by true q p o e here rest = subst (λ x. x.session ≤ 65535) (some_is q p e) here
    found_by false q p o e here rest = rest e

    found_low : (k : ℕ) (ps : List DeclaredPeer) → IsCounted ps → (p : DeclaredPeer) → peer_at k ps ≡ Some p → p.session ≤ 65535
    found_low k [] counted p found = absurd (cc)
    found_low k (q ∷ ps) counted p found = found_by (nat_eq q.words.number k) q p (peer_at k ps) found counted.0 (λ there. found_low k ps counted.2 p there)

begun_low : (b up : Bool) (p : DeclaredPeer) → p.session ≤ 65535 → (b ≡ true → up ≡ false → p.session < 65535) → (cond (b && not up) (record { words = p.words; session = p.session + 1; up = true }) p).session ≤ 65535
begun_low true true p low may = low
begun_low true false p low may = let lt = may refl refl in omega arith
begun_low false up p low may = low

pub low_begun : (k : ℕ) (ps : List DeclaredPeer) → IsCounted ps → MayBegin k ps → StaysLow (begun_at k) ps
low_begun k [] counted may = tt
low_begun k (p ∷ ps) counted may = (
  begun_low (nat_eq p.words.number k) p.up p counted.0 (λ here down. may p (ap (λ b. cond b (Some p) (peer_at k ps)) here) down),
  low_begun k ps counted.2 (rest (nat_eq p.words.number k) refl),
)
  where
    rest : (b : Bool) → nat_eq p.words.number k ≡ b → MayBegin k ps
    rest true e q found down =
        let is : p.words.number ≡ k = grind (arith, nat_tests) in
        let none : peer_at k ps ≡ None = subst (λ n. peer_at n ps ≡ None) is counted.1 in
        absurd (cc)
    rest false e q found down = may q (ap (λ b. cond b (Some p) (peer_at k ps)) e ∙ found) down

ended_low : (b : Bool) (p : DeclaredPeer) → p.session ≤ 65535 → (cond b (record { words = p.words; session = p.session; up = false }) p).session ≤ 65535
ended_low true p low = low
ended_low false p low = low

pub low_ended : (k : ℕ) (ps : List DeclaredPeer) → IsCounted ps → StaysLow (ended_at k) ps
low_ended k [] counted = tt
low_ended k (p ∷ ps) counted = (ended_low (nat_eq p.words.number k) p counted.0, low_ended k ps counted.2)

-- ---- what stays true of the peers
pub counted_begun : (v6 : Bool) (profile : Profile) (speaker : Option Speaker) (peers : List DeclaredPeer) (k : ℕ) → IsCounted peers → refusal (record { v6 = v6; profile = profile; speaker = speaker; peers = peers }) (events.Up k) ≡ None → IsCounted (map (begun_at k) peers)
unfolding refusal
counted_begun v6 profile None peers k counted e = absurd (cc)
counted_begun v6 profile (Some local) peers k counted e = counted_map (begun_at k) (begun_words k) peers counted (low_begun k peers counted (may_begin k peers counted e))

pub counted_ended : (peers : List DeclaredPeer) (k : ℕ) → IsCounted peers → IsCounted (map (ended_at k) peers)
counted_ended peers k counted = counted_map (ended_at k) (ended_words k) peers counted (low_ended k peers counted)

-- the items of a vector that were all written over
pub refilled : (n : ℕ) (ws xs : List DeclaredPeer) → length ws ≡ n → length xs ≡ n → take n (ws ++ drop (length ws) xs) ≡ ws
refilled n ws xs e f = grind (arith, common_steps)
