-- How many turns a resolver's task takes, if nothing else happens. How many candidates lie beyond a place is an argument, and so is the
-- test for equal answers.
use Rattle.std.specs.Prelude.{◌≡◌, ◌↔◌, ℕ, ◌+◌, nat_lt, not, ◌||◌, ◌&&◌, Bool, true, false, is_some, Option, Some, None}
use Rattle.std.specs.FinMap as map
use Rattle.addr4.specs.Prefixes.{AddressPrefix}
use Rattle.nexthop_known.specs.Hops.{Hop}
use Rattle.nexthop_known.specs.Hops.{Hops, is_stale_at, stale_count, count_of}
use Rattle.nexthop_resolver.specs.Resolving.{Resolving, is_in_force}

-- whether a walk begins when the one that is on, if any, is over and all stale next hops are asked for
abbrev pub is_needed : Bool → ℕ → ℕ → Bool
is_needed true stale differing = nat_lt 0 stale
is_needed false stale differing = nat_lt 0 (stale + differing)

module _ (beyond : Option AddressPrefix → ℕ) where
  -- one turn for each candidate beyond the place, and one that ends the walk
  abbrev pub walk_turns : Option (Option AddressPrefix) → ℕ
  walk_turns None = 0
  walk_turns (Some place) = beyond place + 1

  abbrev pub next_walk : Bool → ℕ
  next_walk true = beyond None + 1
  next_walk false = 0

module _ {A : Type 0} (alike : A → A → Bool) where
  -- the test tells equal answers
  abbrev pub TellsAlike : Type 0
  TellsAlike = (x y : A) → (alike x y ≡ true) ↔ (x ≡ y)

  -- whether its fresh answer isn't in force
  abbrev pub differs_at : Option (Hop A) → Bool
  differs_at None = false
  differs_at (Some h) = not (alike h.fresh h.in_force)

  -- whether a row that names this next hop, if one does, may go on at a prefix by another answer than the register's present one:
  -- the next hop is stale, or its fresh answer differs from the one in force, which holds there
  abbrev pub hop_lags : Resolving A → AddressPrefix → Option ℕ → Bool
  hop_lags s q None = false
  hop_lags s q (Some a) = is_stale_at (map.get s.known a) || (is_in_force s.walk q && differs_at (map.get s.known a))

  -- how many have fresh answers that aren't in force
  abbrev pub differing_count : Hops A → ℕ
  differing_count hops = count_of differs_at hops

  -- whether there is something to do: a walk is on, a next hop is stale, or a fresh answer isn't in force
  abbrev pub is_busy : Resolving A → Bool
  is_busy s = is_some s.walk || (nat_lt 0 (stale_count s.known) || nat_lt 0 (differing_count s.known))

  -- the turns of the walk, one for each stale next hop, and those of a walk more where the answers may differ then
  abbrev pub turns_left : (Option AddressPrefix → ℕ) → Resolving A → ℕ
  turns_left beyond s =
      walk_turns beyond s.walk + stale_count s.known + next_walk beyond (is_needed (is_some s.walk) (stale_count s.known) (differing_count s.known))
