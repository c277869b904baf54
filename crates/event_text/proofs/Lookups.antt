-- Lookups among the peers.
use Rattle.std.proofs.Common.{◌≡◌, ℕ, ◌||◌, List, [], ◌∷◌, Some, nat_eq, cond, refl, ap}
use Rattle.std.specs.List.{find, list_any}
use Rattle.event_text.specs.declared.declared.DeclaredPeer.{DeclaredPeer}
use Rattle.event_text.specs.Declarations.{peer_at, has_addr}

pub peer_at_find : (k : ℕ) (ps : List DeclaredPeer) → find (λ p. nat_eq p.words.number k) ps ≡ peer_at k ps
peer_at_find k [] = refl
peer_at_find k (p ∷ ps) = ap (λ o. cond (nat_eq p.words.number k) (Some p) o) (peer_at_find k ps)

pub has_addr_any : (a : ℕ) (ps : List DeclaredPeer) → list_any (λ p. nat_eq p.words.addr a) ps ≡ has_addr a ps
has_addr_any a [] = refl
has_addr_any a (p ∷ ps) = ap (λ b. nat_eq p.words.addr a || b) (has_addr_any a ps)
