-- A session that has begun has begun after each event, too.
use Rattle.router_moments.proofs.Common.{ap, ◌≡◌, ◌∙◌, ℕ, List, true, false, arith, ◌+◌, Bool, ◌++◌, ◌≤◌, cond, nat_eq, not, ◌&&◌, begun_words, peer_at, Declaration, with_session, without_session, begun_at, DeclaredPeer, Event, Down, Bgp, Up, declared_after}
use Rattle.std.proofs.Common.{[], ◌∷◌, map, Option, Some, None}
use Rattle.std.specs.Prelude.{option_map}
use Rattle.link_region.proofs.RegionLemmas.{by_bool}
use Rattle.event_text.specs.declared.event.Event.TheVariants.{Peer}
use Rattle.event_text.specs.Declarations.{words_of, ended_at}
use Rattle.event_text.proofs.Sessions.{KeepsWords, ended_words}
use Rattle.live_state.specs.Messages.{ends_session}
use Rattle.live_state.specs.Declared.{declared_up, declared_down, declared_heard}
use Rattle.router_moments.specs.Refreshes.{HasBegun}
use Rattle.router_moments.proofs.PeerLemmas.{peer_at_map}

module _ (j s : ℕ) where
  -- among these peers
  abbrev Begun : List DeclaredPeer → Type 0
  Begun ps = (p : DeclaredPeer) × (peer_at j ps ≡ Some p) × (s ≤ p.session)

  -- where none goes back
  mapped : (f : DeclaredPeer → DeclaredPeer) → KeepsWords f → ((p : DeclaredPeer) → p.session ≤ (f p).session) → (ps : List DeclaredPeer) → Begun ps → Begun (map f ps)
  mapped f keeps on ps is =
      let more = on is.0 in
      let old = is.2 in
      (f is.0, peer_at_map f keeps j ps ∙ ap (option_map f) is.1, omega (arith, more, old))

  -- one more peer
  pushed : (ps : List DeclaredPeer) (new : DeclaredPeer) → Begun ps → Begun (ps ++ new ∷ [])
  pushed ps new is = (is.0, there ps is.1, is.2)
    where
      there : (ps : List DeclaredPeer) → peer_at j ps ≡ Some is.0 → peer_at j (ps ++ new ∷ []) ≡ Some is.0
      there [] none = absurd (let clash : ◌≡◌ {A = Option DeclaredPeer} None (Some is.0) = none in cc)
      there (p ∷ ps) at = by_bool (nat_eq p.words.number j) (λ b. cond b (Some p) (peer_at j ps) ≡ Some is.0 → cond b (Some p) (peer_at j (ps ++ new ∷ [])) ≡ Some is.0) (λ _ here. here) (λ _ later. there ps later) at

  begun_on : (k : ℕ) (p : DeclaredPeer) → p.session ≤ (begun_at k p).session
  begun_on k p = by_bool (nat_eq p.words.number k && not p.up) (λ b. p.session ≤ (cond b (record { words = p.words; session = p.session + 1; up = true }) p).session) (λ _. omega arith) (λ _. omega arith)

  ended_on : (k : ℕ) (p : DeclaredPeer) → p.session ≤ (ended_at k p).session
  ended_on k p = by_bool (nat_eq p.words.number k) (λ b. p.session ≤ (cond b (record { words = p.words; session = p.session; up = false }) p).session) (λ _. omega arith) (λ _. omega arith)

  module _ (d : Declaration) (is : HasBegun j s d) where
    up_if : (k : ℕ) (up : Bool) → HasBegun j s (cond up d (with_session d k))
    up_if k up = by_bool up (λ b. HasBegun j s (cond b d (with_session d k))) (λ _. is) (λ _. mapped (begun_at k) (begun_words k) (begun_on k) d.peers is)

    down_if : (k : ℕ) (down : Bool) → HasBegun j s (cond down (without_session d k) d)
    down_if k down = by_bool down (λ b. HasBegun j s (cond b (without_session d k) d)) (λ _. mapped (ended_at k) (ended_words k) (ended_on k) d.peers is) (λ _. is)

    after_up : (k : ℕ) (o : Option DeclaredPeer) → HasBegun j s (declared_up d k o)
    after_up k None = is
    after_up k (Some p) = up_if k p.up

    after_down : (k : ℕ) (o : Option DeclaredPeer) → HasBegun j s (declared_down d k o)
    after_down k None = is
    after_down k (Some p) = down_if k p.up

    after_heard : (k : ℕ) (octets : List ℕ) (o : Option DeclaredPeer) → HasBegun j s (declared_heard d k octets o)
    after_heard k octets None = is
    after_heard k octets (Some p) = down_if k (p.up && ends_session d.profile (not p.words.internal) octets)

    pub begun_follows : (event : Event) → HasBegun j s (declared_after d event)
    begun_follows (Up k) = after_up k (peer_at k d.peers)
    begun_follows (Down k) = after_down k (peer_at k d.peers)
    begun_follows (Bgp k octets) = after_heard k octets (peer_at k d.peers)
    begun_follows (Peer k words client) = pushed d.peers (record { words = words_of d.speaker k words client; session = 0; up = false }) is
    begun_follows other = is
