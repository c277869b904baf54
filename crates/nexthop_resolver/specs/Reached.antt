-- What becomes stale with interests that the register gave up.
use Rattle.std.specs.Prelude.{◌≡◌, ℕ, ◌==◌, ◌&&◌, Bool, cond, MatchBool, List, Option, None}
use Rattle.std.specs.List.{list_any}
use Rattle.addr4.specs.Prefixes.{AddressPrefix}
use Rattle.register_interest.specs.Interests.{Interest}
use Rattle.nexthop_known.specs.Hops.{Hop}
use Rattle.nexthop_known.specs.Hops.{IsMapped, is_with}
use Rattle.nexthop_resolver.specs.Resolving.{Resolving}
use Rattle.nexthop_resolver.specs.Takes.{Invalidates}

-- one of these is the client's, in the subnet with which an answer came
abbrev pub is_listed : List Interest → ℕ → Option AddressPrefix → Bool
is_listed out client came = list_any (λ i. i.client == client && is_with i.subnet came) out

module _ {A : Type 0} where
  -- stale where it is so
  abbrev pub reached_hop : List Interest → ℕ → Hop A → Hop A
  reached_hop out client h = record { in_force = h.in_force; fresh = h.fresh; came = cond (is_listed out client h.came) None h.came }

  -- the answers that came with these interests of client k are stale, and all else is as it was
  pub record IsReached (out : List Interest) (k : ℕ) (old new : Resolving A) : Type 0 where
    pub client : new.client ≡ old.client
    pub walk : new.walk ≡ old.walk
    pub counts : new.counts ≡ old.counts
    pub known : IsMapped (reached_hop out k) old.known new.known

  -- of one interest: where it is client k's, its subnet is invalidated
  abbrev pub IsReachedBy : Interest → ℕ → Resolving A → Resolving A → Type 0
  IsReachedBy i k old new = MatchBool (i.client == k) (Invalidates i.subnet old new) (new ≡ old)
