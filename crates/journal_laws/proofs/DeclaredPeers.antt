-- What is known of a declared peer, and what is declared after more was.
use Rattle.std.proofs.Common.{◌≡◌, ℕ, ◌<◌, ◌≤◌, Bool, true, false, cond, List, [], ◌∷◌, ◌++◌, map, Option, Some, None, nat_eq, refl, ap, subst, sym, ◌∙◌, arith}
use Rattle.bgp_attr.specs.Speakers.{Speaker}
use Rattle.bgp_attr.specs.declared.speaker.Neighbour.{Neighbour}
use Rattle.bgp_attr.specs.declared.speaker.Profile.{Profile}
use Rattle.bgp_attr.specs.Speakers.{IsSpeaker}
use Rattle.event_text.specs.declared.event.Event.TheVariants.{Whole, Local, Peer, Up}
use Rattle.event_text.specs.declared.event.WholeFile.{WholeFile}
use Rattle.event_text.specs.declared.declared.DeclaredPeer.{DeclaredPeer}
use Rattle.event_text.specs.Declarations.{Declaration, peer_at, refusal, with_profile, with_whole, with_speaker, with_peer, with_session, without_session, begun_at, ended_at, to_peers, IsCounted, IsDeclaredBy, IsDeclaration}
use Rattle.event_text.specs.WellFormed.{IsWellFormed}
use Rattle.event_text.proofs.Sessions.{KeepsWords, begun_words, ended_words}
use Rattle.event_text.proofs.DeclarationLemmas.{profile_kept, speaker_kept, peer_kept, session_kept, end_kept, found_peer}
use Rattle.live_state.proofs.AdmittedLemmas.{whole_is_first}
use Rattle.journal_laws.specs.Peers.{words_in, neighbours, KeepsPeers}

-- ---- a declared peer
low_session : (k : ℕ) (ps : List DeclaredPeer) (p : DeclaredPeer) → IsCounted ps → peer_at k ps ≡ Some p → p.session ≤ 65535
low_session k [] p counted found = absurd (cc)
low_session k (q ∷ ps) p counted found = elim (nat_eq q.words.number k) as (λ (b : Bool). cond b (Some q) (peer_at k ps) ≡ Some p → p.session ≤ 65535) [
  | true ↦ λ here. subst (λ (x : DeclaredPeer). x.session ≤ 65535) (let same : q ≡ p = cc in same) counted.0
  | false ↦ λ there. low_session k ps p counted.2 there
] found

pub record IsKnown (k : ℕ) (p : DeclaredPeer) : Type 0 where
  pub number : p.words.number ≡ k
  pub least : 0 < k
  pub most : k ≤ 64
  pub begun : p.up ≡ true → 0 < p.session
  pub session : p.session ≤ 65535

pub known_peer : (d : Declaration) (k : ℕ) (p : DeclaredPeer) → IsDeclaration d → peer_at k d.peers ≡ Some p → IsKnown k p
known_peer d k p declared found = by_speaker d.v6 d.profile d.speaker d.peers declared found
  where
    by_speaker : (v6 : Bool) (profile : Profile) (o : Option Speaker) (peers : List DeclaredPeer) → IsDeclaredBy v6 profile o peers → peer_at k peers ≡ Some p → IsKnown k p
    by_speaker v6 profile None peers none found = absurd (let contra : peer_at k [] ≡ Some p = ap (peer_at k) (sym none) ∙ found in cc)
    by_speaker v6 profile (Some local) peers are found =
        let f = found_peer profile (to_peers v6 local) peers k p are.each found in
        let own = f.0.words.neighbour in
        record {
          number = f.1;
          least = subst (λ (n : ℕ). 0 < n) f.1 own.least;
          most = subst (λ (n : ℕ). n ≤ 64) f.1 own.most;
          begun = f.0.begun;
          session = low_session k peers p are.counted found;
        }

nobody : (d : Declaration) → IsDeclaration d → neighbours d 0 ≡ None
nobody d declared = by_peer (peer_at 0 d.peers) refl
  where
    by_peer : (o : Option DeclaredPeer) → peer_at 0 d.peers ≡ o → neighbours d 0 ≡ None
    by_peer None e = ap words_in e
    by_peer (Some p) e = absurd (let least = (known_peer d 0 p declared e).least in omega (arith, least))

-- ---- words
words_mapped : (f : DeclaredPeer → DeclaredPeer) → KeepsWords f → (k : ℕ) (ps : List DeclaredPeer) → words_in (peer_at k (map f ps)) ≡ words_in (peer_at k ps)
words_mapped f keeps k [] = refl
words_mapped f keeps k (p ∷ ps) = ap (λ (w : Neighbour). words_in (cond (nat_eq w.number k) (Some (f p)) (peer_at k (map f ps)))) (keeps p)
    ∙ elim (nat_eq p.words.number k) as (λ (b : Bool). words_in (cond b (Some (f p)) (peer_at k (map f ps))) ≡ words_in (cond b (Some p) (peer_at k ps))) [ true ↦ ap Some (keeps p) | false ↦ words_mapped f keeps k ps ]

words_pushed : (k : ℕ) (ps : List DeclaredPeer) (q : DeclaredPeer) (w : Neighbour) → words_in (peer_at k ps) ≡ Some w → words_in (peer_at k (ps ++ q ∷ [])) ≡ Some w
words_pushed k [] q w there = absurd (cc)
words_pushed k (p ∷ ps) q w there = elim (nat_eq p.words.number k) as (λ (b : Bool). words_in (cond b (Some p) (peer_at k ps)) ≡ Some w → words_in (cond b (Some p) (peer_at k (ps ++ q ∷ []))) ≡ Some w) [
  | true ↦ λ here. here
  | false ↦ λ later. words_pushed k ps q w later
] there

-- ---- each event
-- what is declared after an event
pub record Leaves (d now : Declaration) : Type 0 where
  pub declared : IsDeclaration now
  pub peers : KeepsPeers d now

leaves : (d now : Declaration) → IsDeclaration now → now.v6 ≡ d.v6 → now.profile ≡ d.profile → ((k : ℕ) (w : Neighbour) → neighbours d k ≡ Some w → neighbours now k ≡ Some w) → Leaves d now
leaves d now declared family profile words = record { declared = declared; peers = record { family = family; words = words; profile = λ k w there. profile; nobody = nobody now declared } }

pub leaves_all : (d : Declaration) → IsDeclaration d → Leaves d d
leaves_all d declared = leaves d d declared refl refl (λ k w there. there)

-- before `local` nobody is declared
none_before : (d : Declaration) (k : ℕ) (w : Neighbour) (P : Type 0) → IsDeclaration d → d.speaker ≡ None → neighbours d k ≡ Some w → P
none_before d k w P declared none there =
    let nobody : d.peers ≡ [] = subst (λ (o : Option Speaker). IsDeclaredBy d.v6 d.profile o d.peers) none declared in
    absurd (let clash : ◌≡◌ {A = Option Neighbour} None (Some w) = sym (ap (λ (ps : List DeclaredPeer). words_in (peer_at k ps)) nobody) ∙ there in cc)

-- so another profile is nobody's
profile_leaves : (d : Declaration) (profile : Profile) → IsDeclaration d → d.speaker ≡ None → Leaves d (with_profile d profile)
profile_leaves d profile declared none =
    let now = profile_kept d profile declared none in
    record { declared = now; peers = record { family = refl; words = λ k w there. there; profile = λ k w there. none_before d k w (profile ≡ d.profile) declared none there; nobody = nobody (with_profile d profile) now } }

pub whole_leaves : (d : Declaration) (word : WholeFile) → IsDeclaration d → refusal d (Whole word) ≡ None → Leaves d (with_profile d (with_whole word d.profile))
whole_leaves d word declared admitted = profile_leaves d (with_whole word d.profile) declared (whole_is_first d word admitted)

pub speaker_leaves : (d : Declaration) (words : Speaker) → IsDeclaration d → refusal d (Local words) ≡ None → IsSpeaker d.v6 d.profile.as4 words → Leaves d (with_speaker d words)
speaker_leaves d words declared admitted formed = leaves d (with_speaker d words) (speaker_kept d words declared admitted formed) refl refl (λ k w there. there)

pub peer_leaves : (d : Declaration) (k : ℕ) (words : Speaker) (client : Bool) → IsDeclaration d → refusal d (Peer k words client) ≡ None → IsWellFormed d.v6 d.profile (Peer k words client) → Leaves d (with_peer d k words client)
peer_leaves d k words client declared admitted formed = leaves d (with_peer d k words client) (peer_kept d k words client declared admitted formed) refl refl (λ j w there. words_pushed j d.peers _ w there)

pub session_leaves : (d : Declaration) (k : ℕ) → IsDeclaration d → refusal d (Up k) ≡ None → Leaves d (with_session d k)
session_leaves d k declared admitted = leaves d (with_session d k) (session_kept d k declared admitted) refl refl (λ j w there. words_mapped (begun_at k) (begun_words k) j d.peers ∙ there)

pub end_leaves : (d : Declaration) (k : ℕ) → IsDeclaration d → Leaves d (without_session d k)
end_leaves d k declared = leaves d (without_session d k) (end_kept d k declared) refl refl (λ j w there. words_mapped (ended_at k) (ended_words k) j d.peers ∙ there)
