-- What is declared where an event is admitted, what is set to what it is, and peers whose session ended.
use Rattle.std.proofs.Common.{◌≡◌, ℕ, Bool, true, false, cond, List, [], ◌∷◌, map, length, suc, Option, Some, None, IsSome, is_some, nat_eq, refl, sym, ap, ◌∙◌, arith}
use Rattle.std.proofs.lemmas.Bool.Decides.{nat_tests}
use Rattle.bgp_attr.specs.Speakers.{Speaker}
use Rattle.bgp_attr.specs.declared.speaker.Profile.{Profile}
use Rattle.rib_route.specs.declared.Proto.{Proto}
use Rattle.rib_route.specs.declared.Proto.TheVariants.{Connected, Static, Ospf, Rip}
use Rattle.policy_rules.specs.Rules.{Rule}
use Rattle.event_text.specs.Event.{Event}
use Rattle.event_text.specs.declared.event.Event.TheVariants.{Whole, Down, Bgp}
use Rattle.event_text.specs.declared.event.WholeFile.{WholeFile}
use Rattle.event_text.specs.declared.declared.DeclaredPeer.{DeclaredPeer}
use Rattle.event_text.specs.Declarations.{Declaration, peer_at, refusal, refusal_at, refusal_first, refusal_by, undeclared, ended_at}
use Rattle.event_text.proofs.Sessions.{ended_words}
use Rattle.live_state.specs.Lives.{LiveState, Routes, Interiors, with_routes, with_rules, with_interior, interior_fed}

-- ---- events
-- `local` was declared, or the event is admitted before it
admitted_by : (v6 : Bool) (profile : Profile) (s : Option Speaker) (ps : List DeclaredPeer) (event : Event) → (refusal_first profile event ≡ None → ⊥) → refusal_at v6 profile s ps event ≡ None → (me : Speaker) × (s ≡ Some me) × (refusal_by v6 me ps event ≡ None)
admitted_by v6 profile None ps event later e = absurd (later e)
admitted_by v6 profile (Some me) ps event later e = (me, refl, e)

pub speaker_since : (d : Declaration) (event : Event) → (refusal_first d.profile event ≡ None → ⊥) → refusal d event ≡ None → IsSome d.speaker
unfolding refusal
speaker_since d event later e = ap is_some (admitted_by d.v6 d.profile d.speaker d.peers event later e).1

-- `local` wasn't declared where a line that sets the profile is admitted
admitted_first : (v6 : Bool) (profile : Profile) (s : Option Speaker) (ps : List DeclaredPeer) (event : Event) → ((me : Speaker) → refusal_by v6 me ps event ≡ None → ⊥) → refusal_at v6 profile s ps event ≡ None → s ≡ None
admitted_first v6 profile None ps event first e = refl
admitted_first v6 profile (Some me) ps event first e = absurd (first me e)

pub whole_is_first : (d : Declaration) (word : WholeFile) → refusal d (Whole word) ≡ None → d.speaker ≡ None
unfolding refusal
whole_is_first d word e = admitted_first d.v6 d.profile d.speaker d.peers (Whole word) (λ me e. cc) e

-- a peer was declared
there : (o : Option DeclaredPeer) → undeclared o ≡ None → o ≡ None → ⊥
there None e none = absurd (cc)
there (Some p) e none = absurd (cc)

pub down_there : (d : Declaration) (k : ℕ) → refusal d (Down k) ≡ None → peer_at k d.peers ≡ None → ⊥
unfolding refusal
down_there d k e = there (peer_at k d.peers) (admitted_by d.v6 d.profile d.speaker d.peers (Down k) (λ e. cc) e).2

pub bgp_there : (d : Declaration) (k : ℕ) (octets : List ℕ) → refusal d (Bgp k octets) ≡ None → peer_at k d.peers ≡ None → ⊥
unfolding refusal
bgp_there d k octets e = there (peer_at k d.peers) (admitted_by d.v6 d.profile d.speaker d.peers (Bgp k octets) (λ e. cc) e).2

-- ---- what is set to what it is
same_at : {A : Type 0} (all : ℕ → A) (k : ℕ) (one : A) → all k ≡ one → (j : ℕ) → cond (nat_eq j k) one (all j) ≡ all j
same_at all k one is j = by_test (nat_eq j k) refl
  where
    by_test : (t : Bool) → nat_eq j k ≡ t → cond t one (all j) ≡ all j
    by_test true e = let same : k ≡ j = grind (arith, nat_tests) in sym is ∙ ap all same
    by_test false e = refl

pub routes_same : (all : ℕ → Routes) (k : ℕ) (routes : Routes) → all k ≡ routes → with_routes all k routes ≡ all
routes_same all k routes is i j = same_at all k routes is j i

pub rules_same : (all : ℕ → List Rule) (k : ℕ) (rules : List Rule) → all k ≡ rules → with_rules all k rules ≡ all
rules_same all k rules is i j = same_at all k rules is j i

interior_same : (all : Proto → Interiors) (proto : Proto) (routes : Interiors) → routes ≡ all proto → (other : Proto) → with_interior all proto routes other ≡ all other
interior_same all Connected routes same Connected = same
interior_same all Static routes same Static = same
interior_same all Ospf routes same Ospf = same
interior_same all Rip routes same Rip = same
interior_same all proto routes same other = refl

pub live_as_it_was : (l : LiveState) (proto : Proto) (routes : Interiors) → routes ≡ l.interior proto → l ≡ interior_fed l proto routes
live_as_it_was l proto routes same i = record l { interior = λ other. sym (interior_same l.interior proto routes same other) i }

-- routes that are set twice
pub routes_twice : (all : ℕ → Routes) (k : ℕ) (a b : Routes) → with_routes (with_routes all k a) k b ≡ with_routes all k b
routes_twice all k a b i j = by_test (nat_eq j k) i
  where
    by_test : (t : Bool) → cond t b (cond t a (all j)) ≡ cond t b (all j)
    by_test true = refl
    by_test false = refl

-- ---- peers whose session ended
abbrev pub down : DeclaredPeer → DeclaredPeer
down p = record { words = p.words; session = p.session; up = false }

pub ended_same : (k : ℕ) (ps : List DeclaredPeer) (p : DeclaredPeer) → peer_at k ps ≡ Some p → peer_at k (map (ended_at k) ps) ≡ Some (down p)
ended_same k [] p at = absurd (cc)
ended_same k (q ∷ qs) p at = ap (λ w. cond (nat_eq w.number k) (Some (ended_at k q)) (peer_at k (map (ended_at k) qs))) (ended_words k q) ∙ by_test (nat_eq q.words.number k) at (ended_same k qs p)
  where
    by_test : (b : Bool) → cond b (Some q) (peer_at k qs) ≡ Some p → (peer_at k qs ≡ Some p → peer_at k (map (ended_at k) qs) ≡ Some (down p)) → cond b (Some (cond b (down q) q)) (peer_at k (map (ended_at k) qs)) ≡ Some (down p)
    by_test true e later = let same : q ≡ p = cc in ap (λ (x : DeclaredPeer). Some (down x)) same
    by_test false e later = later e

pub ended_other : (k j : ℕ) (ps : List DeclaredPeer) → nat_eq j k ≡ false → peer_at j (map (ended_at k) ps) ≡ peer_at j ps
ended_other k j [] other = refl
ended_other k j (q ∷ qs) other = ap (λ w. cond (nat_eq w.number j) (Some (ended_at k q)) (peer_at j (map (ended_at k) qs))) (ended_words k q) ∙ by_test (nat_eq q.words.number j) refl (ended_other k j qs other)
  where
    by_test : (b : Bool) → nat_eq q.words.number j ≡ b → peer_at j (map (ended_at k) qs) ≡ peer_at j qs → cond b (Some (ended_at k q)) (peer_at j (map (ended_at k) qs)) ≡ cond b (Some q) (peer_at j qs)
    by_test true e rest = let same : q.words.number ≡ j = grind (arith, nat_tests) in ap (λ (b : Bool). Some (cond b (down q) q)) (ap (λ (n : ℕ). nat_eq n k) same ∙ other)
    by_test false e rest = rest

pub ended_length : (k : ℕ) (ps : List DeclaredPeer) → length (map (ended_at k) ps) ≡ length ps
ended_length k [] = refl
ended_length k (p ∷ ps) = ap suc (ended_length k ps)
