-- What stays true of declarations.
use Rattle.std.proofs.Common.{◌≡◌, ℕ, ◌+◌, ◌<◌, Bool, true, false, not, ◌&&◌, ◌||◌, List, [], ◌∷◌, ◌++◌, map, Option, Some, None, nat_eq, cond, refl, ap, sym, subst, ◌∙◌, arith}
use Rattle.std.proofs.lemmas.Bool.Decides.{nat_tests}
use Rattle.bgp_attr.specs.Speakers.{Speaker}
use Rattle.bgp_attr.specs.declared.speaker.Profile.{Profile}
use Rattle.event_text.specs.declared.event.Event.TheVariants as events
use Rattle.event_text.specs.declared.declared.DeclaredPeer.{DeclaredPeer}
use Rattle.bgp_attr.specs.Speakers.{IsSpeaker, IsNeighbourOf}
use Rattle.event_text.specs.WellFormed.{IsWellFormed}
use Rattle.event_text.specs.Declarations.{Declaration, peer_at, has_addr, to_peers, refusal, words_of, with_profile, with_speaker, with_peer, with_session, without_session, begun_at, ended_at, IsPeerOf, ArePeersOf, HaveOwnAddrs, AreDeclared, IsDeclaredBy, IsDeclaration}
use Rattle.event_text.proofs.Sessions.{Addable, addable_by, counted_push, KeepsWords, begun_words, ended_words, counted_begun, counted_ended}

-- ---- `as4`, `revised` and `reflect`
pub profile_kept : (d : Declaration) (profile : Profile) → IsDeclaration d → d.speaker ≡ None → IsDeclaration (with_profile d profile)
profile_kept d profile declared none =
    subst (λ o. IsDeclaredBy d.v6 profile o d.peers) (sym none) (subst (λ o. IsDeclaredBy d.v6 d.profile o d.peers) none declared)

-- ---- `local`
pub speaker_kept : (d : Declaration) (s : Speaker) → IsDeclaration d → refusal d (events.Local s) ≡ None → IsSpeaker d.v6 d.profile.as4 s → IsDeclaration (with_speaker d s)
unfolding refusal
speaker_kept d s declared refused ok = by_speaker d.speaker d.peers declared refused
  where
    by_speaker : (o : Option Speaker) (peers : List DeclaredPeer) → IsDeclaredBy d.v6 d.profile o peers → refusal (record { v6 = d.v6; profile = d.profile; speaker = o; peers = peers }) (events.Local s) ≡ None → AreDeclared d.v6 d.profile s peers
    by_speaker None peers none refused = subst (AreDeclared d.v6 d.profile s) (sym none) (record { speaker = ok; each = tt; counted = tt; addrs = tt })
    by_speaker (Some local) peers declared refused = absurd (cc)

-- ---- `peer`
peers_push : (profile : Profile) (local : Speaker) (ps : List DeclaredPeer) (q : DeclaredPeer) → ArePeersOf profile local ps → IsPeerOf profile local q → ArePeersOf profile local (ps ++ q ∷ [])
peers_push profile local [] q each here = (here, tt)
peers_push profile local (p ∷ ps) q each here = (each.0, peers_push profile local ps q each.1 here)

or_false : (a b : Bool) → (a || b) ≡ false → (a ≡ false) × (b ≡ false)
or_false true b e = absurd (cc)
or_false false b e = (refl, e)

addr_push : (a : ℕ) (ps : List DeclaredPeer) (q : DeclaredPeer) → has_addr a ps ≡ false → nat_eq q.words.addr a ≡ false → has_addr a (ps ++ q ∷ []) ≡ false
addr_push a [] q none other = ap (λ b. b || false) other
addr_push a (p ∷ ps) q none other =
    let o = or_false (nat_eq p.words.addr a) (has_addr a ps) none in
    ap (λ b. b || has_addr a (ps ++ q ∷ [])) o.0 ∙ addr_push a ps q o.1 other

other_way : (a b : ℕ) → nat_eq a b ≡ false → nat_eq b a ≡ false
other_way a b e = grind (arith, nat_tests)

addrs_push : (ps : List DeclaredPeer) (q : DeclaredPeer) → HaveOwnAddrs ps → has_addr q.words.addr ps ≡ false → HaveOwnAddrs (ps ++ q ∷ [])
addrs_push [] q own none = (refl, tt)
addrs_push (p ∷ ps) q own none =
    let o = or_false (nat_eq p.words.addr q.words.addr) (has_addr q.words.addr ps) none in
    (addr_push p.words.addr ps q own.0 (other_way p.words.addr q.words.addr o.0), addrs_push ps q own.1 o.1)

peer_added : (v6 : Bool) (profile : Profile) (local : Speaker) (peers : List DeclaredPeer) (k : ℕ) (s : Speaker) (client : Bool) → AreDeclared v6 profile local peers → Addable (to_peers v6 local) peers k s client → IsWellFormed v6 profile (events.Peer k s client) → AreDeclared v6 profile local (peers ++ record { words = words_of (Some local) k s client; session = 0; up = false } ∷ [])
peer_added v6 profile local peers k s client declared a ok =
    let q : DeclaredPeer = record { words = words_of (Some local) k s client; session = 0; up = false } in
    let words : IsNeighbourOf profile (to_peers v6 local) q.words =
    record {
      neighbour = record { least = ok.0.least; most = a.few; speaker = ok.1 };
      internal = refl;
      client = a.own;
      reflected = ok.2;
      foreign = a.foreign;
    } in
    record {
      speaker = declared.speaker;
      each = peers_push profile (to_peers v6 local) peers q declared.each (record { words = words; begun = λ up. absurd (cc) });
      counted = counted_push peers q declared.counted a.absent (omega arith);
      addrs = addrs_push peers q declared.addrs a.new;
    }

pub peer_kept : (d : Declaration) (k : ℕ) (s : Speaker) (client : Bool) → IsDeclaration d → refusal d (events.Peer k s client) ≡ None → IsWellFormed d.v6 d.profile (events.Peer k s client) → IsDeclaration (with_peer d k s client)
unfolding refusal
peer_kept d k s client declared refused ok = by_speaker d.speaker d.peers declared refused
  where
    by_speaker : (o : Option Speaker) (peers : List DeclaredPeer) → IsDeclaredBy d.v6 d.profile o peers → refusal (record { v6 = d.v6; profile = d.profile; speaker = o; peers = peers }) (events.Peer k s client) ≡ None → IsDeclaredBy d.v6 d.profile o (peers ++ record { words = words_of o k s client; session = 0; up = false } ∷ [])
    by_speaker None peers declared refused = absurd (cc)
    by_speaker (Some local) peers declared refused = peer_added d.v6 d.profile local peers k s client declared (addable_by d.v6 local peers k s client refused) ok

-- ---- `up` and `down`
KeepsBegun : (DeclaredPeer → DeclaredPeer) → Type 0
KeepsBegun f = (p : DeclaredPeer) → (p.up ≡ true → 0 < p.session) → (f p).up ≡ true → 0 < (f p).session

peers_map : (f : DeclaredPeer → DeclaredPeer) → KeepsWords f → KeepsBegun f → (profile : Profile) (local : Speaker) (ps : List DeclaredPeer) → ArePeersOf profile local ps → ArePeersOf profile local (map f ps)
unfolding KeepsBegun
peers_map f keeps begun profile local [] each = tt
peers_map f keeps begun profile local (p ∷ ps) each = (record { words = subst (IsNeighbourOf profile local) (sym (keeps p)) each.0.words; begun = begun p each.0.begun }, peers_map f keeps begun profile local ps each.1)

addr_map : (f : DeclaredPeer → DeclaredPeer) → KeepsWords f → (a : ℕ) (ps : List DeclaredPeer) → has_addr a (map f ps) ≡ has_addr a ps
addr_map f keeps a [] = refl
addr_map f keeps a (p ∷ ps) = ap (λ w. nat_eq w.addr a || has_addr a (map f ps)) (keeps p) ∙ ap (λ b. nat_eq p.words.addr a || b) (addr_map f keeps a ps)

addrs_map : (f : DeclaredPeer → DeclaredPeer) → KeepsWords f → (ps : List DeclaredPeer) → HaveOwnAddrs ps → HaveOwnAddrs (map f ps)
addrs_map f keeps [] own = tt
addrs_map f keeps (p ∷ ps) own = (ap (λ w. has_addr w.addr (map f ps)) (keeps p) ∙ addr_map f keeps p.words.addr ps ∙ own.0, addrs_map f keeps ps own.1)

begun_begun : (k : ℕ) → KeepsBegun (begun_at k)
unfolding KeepsBegun
begun_begun k p h = by_test (nat_eq p.words.number k && not p.up)
  where
    by_test : (b : Bool) → (cond b (record { words = p.words; session = p.session + 1; up = true }) p).up ≡ true → 0 < (cond b (record { words = p.words; session = p.session + 1; up = true }) p).session
    by_test true up = omega arith
    by_test false up = h up

ended_begun : (k : ℕ) → KeepsBegun (ended_at k)
unfolding KeepsBegun
ended_begun k p h = by_test (nat_eq p.words.number k)
  where
    by_test : (b : Bool) → (cond b (record { words = p.words; session = p.session; up = false }) p).up ≡ true → 0 < (cond b (record { words = p.words; session = p.session; up = false }) p).session
    by_test true up = absurd (cc)
    by_test false up = h up

pub session_kept : (d : Declaration) (k : ℕ) → IsDeclaration d → refusal d (events.Up k) ≡ None → IsDeclaration (with_session d k)
session_kept d k declared refused = by_speaker d.speaker d.peers declared refused
  where
    by_speaker : (o : Option Speaker) (peers : List DeclaredPeer) → IsDeclaredBy d.v6 d.profile o peers → refusal (record { v6 = d.v6; profile = d.profile; speaker = o; peers = peers }) (events.Up k) ≡ None → IsDeclaredBy d.v6 d.profile o (map (begun_at k) peers)
    by_speaker None peers none refused = ap (map (begun_at k)) none
    by_speaker (Some local) peers declared refused =
        record {
          speaker = declared.speaker;
          each = peers_map (begun_at k) (begun_words k) (begun_begun k) d.profile (to_peers d.v6 local) peers declared.each;
          counted = counted_begun d.v6 d.profile (Some local) peers k declared.counted refused;
          addrs = addrs_map (begun_at k) (begun_words k) peers declared.addrs;
        }

pub end_kept : (d : Declaration) (k : ℕ) → IsDeclaration d → IsDeclaration (without_session d k)
end_kept d k declared = by_speaker d.speaker d.peers declared
  where
    by_speaker : (o : Option Speaker) (peers : List DeclaredPeer) → IsDeclaredBy d.v6 d.profile o peers → IsDeclaredBy d.v6 d.profile o (map (ended_at k) peers)
    by_speaker None peers none = ap (map (ended_at k)) none
    by_speaker (Some local) peers declared =
        record {
          speaker = declared.speaker;
          each = peers_map (ended_at k) (ended_words k) (ended_begun k) d.profile (to_peers d.v6 local) peers declared.each;
          counted = counted_ended peers k declared.counted;
          addrs = addrs_map (ended_at k) (ended_words k) peers declared.addrs;
        }

-- ---- a peer that is found
some_is : (p q : DeclaredPeer) → Some p ≡ Some q → p ≡ q
some_is p q e = cc

found_by : (b : Bool) (q p : DeclaredPeer) (k : ℕ) (rest : Option DeclaredPeer) (P : DeclaredPeer → Type 0) → nat_eq q.words.number k ≡ b → cond b (Some q) rest ≡ Some p → P q → (rest ≡ Some p → P p × (p.words.number ≡ k)) → P p × (p.words.number ≡ k)
found_by true q p k rest P e here holds later =
    let number : q.words.number ≡ k = grind (arith, nat_tests) in
    subst (λ x. P x × (x.words.number ≡ k)) (some_is q p here) (holds, number)
found_by false q p k rest P e there holds later = later there

pub found_peer : (profile : Profile) (local : Speaker) (ps : List DeclaredPeer) (k : ℕ) (p : DeclaredPeer) → ArePeersOf profile local ps → peer_at k ps ≡ Some p → IsPeerOf profile local p × (p.words.number ≡ k)
found_peer profile local [] k p each found = absurd (cc)
found_peer profile local (q ∷ ps) k p each found = found_by (nat_eq q.words.number k) q p k (peer_at k ps) (IsPeerOf profile local) refl found each.0 (λ there. found_peer profile local ps k p each.1 there)
