-- One turn of a resolver's task, by the first of three cases that holds.
use Rattle.std.specs.Prelude.{◌≡◌, ◌⊎◌, ℕ, true, Option, Some, None, IsSome}
use Rattle.std.specs.FinMap as map
use Rattle.addr4.specs.Prefixes.{AddressPrefix}
use Rattle.link_change.specs.Rows.{Rows, Candidates}
use Rattle.link_change.specs.Changes.{Change}
use Rattle.link_change.specs.Turns.{Turn}
use Rattle.link_change.specs.declared.turn.Turn.TheVariants.{Nothing, Quiet, Sent}
use Rattle.rib_route.specs.Rows.{Interior}
use Rattle.register_interest.specs.Registers.{Registry}
use Rattle.nexthop_known.specs.Hops.{Hops, IsMapped, settled, is_stale_at, IsLeastStale, IsSettled, IsDiffering}
use Rattle.pass_core.specs.Turns as turns
use Rattle.nexthop_resolver.specs.Resolving.{Resolving, passes, begun, resolved}
use Rattle.nexthop_resolver.specs.Registered.{Renews}

module _ {A : Type 0} where
  -- while the walk is on, the answers stay; when it is over, the fresh ones are in force, also of next hops that are stale again
  abbrev pub KnownAfter : Option (Option AddressPrefix) → Hops A → Hops A → Type 0
  KnownAfter (Some place) old new = new ≡ old
  KnownAfter None old new = IsMapped settled old new

  -- there is nothing to do
  pub record Rests (s : Resolving A) : Type 0 where
    pub off : s.walk ≡ None
    pub none_stale : IsLeastStale (map.get s.known) None
    pub settled_all : IsSettled (map.get s.known)

  -- there is: a walk is on, a next hop is stale, or a fresh answer isn't in force
  abbrev pub HasWork : Resolving A → Type 0
  HasWork s = IsSome s.walk ⊎ (((a : ℕ) × (is_stale_at (map.get s.known a) ≡ true)) ⊎ IsDiffering (map.get s.known))

module _ {A R L : Type 0} (hop : R → ℕ) (made : R → A → Option L) (candidates : Candidates) (upper : Rows R) where
  -- the walk that is on goes to the next candidate, or ends
  pub record Steps (old new : Resolving A) (sent : Option (Change L)) : Type 0 where
    pub walks : turns.Walks (resolved hop made) candidates upper (passes old) (passes new) sent
    pub known : KnownAfter new.walk old.known new.known
    pub counts : new.counts ≡ old.counts
    pub client : new.client ≡ old.client

  abbrev pub IsStep : Resolving A → Resolving A → Turn L → Type 0
  IsStep old new Nothing = ⊥
  IsStep old new Quiet = Steps old new None
  IsStep old new (Sent change) = Steps old new (Some change)

  module _ (kept : Option (AddressPrefix × Interior) → A) (was is : Registry Interior) where
    -- 1. a walk is on
    pub record Goes (old new : Resolving A) (sent : Option (Change L)) : Type 0 where
      pub steps : Steps old new sent
      pub nothing_asked : is ≡ was

    -- 2. none is, and the least stale next hop is asked for again
    pub record Asks (old new : Resolving A) (sent : Option (Change L)) : Type 0 where
      pub off : old.walk ≡ None
      pub next_hop : ℕ
      pub least : IsLeastStale (map.get old.known) (Some next_hop)
      pub renews : Renews kept was old.known new.known next_hop
      pub walk : new.walk ≡ None
      pub counts : new.counts ≡ old.counts
      pub client : new.client ≡ old.client
      pub none_sent : sent ≡ None

    -- 3. none is stale, some fresh answer isn't in force: a walk begins, and takes its first step
    pub record Begins (old new : Resolving A) (sent : Option (Change L)) : Type 0 where
      pub off : old.walk ≡ None
      pub none_stale : IsLeastStale (map.get old.known) None
      pub differs : IsDiffering (map.get old.known)
      pub steps : Steps (begun old) new sent
      pub nothing_asked : is ≡ was

    abbrev pub Turned : Resolving A → Resolving A → Option (Change L) → Type 0
    Turned old new sent = Goes old new sent ⊎ (Asks old new sent ⊎ Begins old new sent)

    -- what a turn came to: nothing where there is nothing to do
    abbrev pub IsTurn : Resolving A → Resolving A → Turn L → Type 0
    IsTurn old new Nothing = Rests old × (new ≡ old) × (is ≡ was)
    IsTurn old new Quiet = Turned old new None
    IsTurn old new (Sent change) = Turned old new (Some change)
