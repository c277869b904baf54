-- Laws: what a step makes is one. From what stood before it, and what comes in, it follows what stands after it, what is sent, and what
-- is said.
use Rattle.std.specs.Prelude.{◌≡◌, ℕ, Bool, true, List, Option, Some}
use Rattle.std.specs.FinMap as map
use Rattle.addr4.specs.Prefixes.{AddressPrefix}
use Rattle.bgp_attr.specs.Routes.{Route}
use Rattle.link_change.specs.Rows.{Rows, Candidates}
use Rattle.link_change.specs.Changes.{IsSent}
use Rattle.link_change.specs.Changes.{Change}
use Rattle.link_change.specs.Turns.{Turn}
use Rattle.register_interest.specs.Width.{width}
use Rattle.rib_route.specs.Rows.{Interior}
use Rattle.register_interest.specs.Covers.{IsSubnet, IsCover}
use Rattle.register_interest.specs.Interests.{Interest}
use Rattle.register_interest.specs.Interests.{AreReached, without}
use Rattle.register_interest.specs.Registers.{Registry, put_row, AllStand as MatchesStand}
use Rattle.nexthop_known.specs.Hops.{Hop}
use Rattle.nexthop_known.specs.Hops.{Hops, IsLeastStale}
use Rattle.nexthop_known.specs.Counts.{Counts, AreCounted}
use Rattle.nexthop_resolver.specs.Resolving.{Resolving, AreNamed, named_by}
use Rattle.nexthop_resolver.specs.Registered.{KeepsOthers, IsLargest, IsToldBy, told_of, Agrees, Renews}
use Rattle.nexthop_resolver.specs.Takes.{Keeps, Invalidates, TakesIn}
use Rattle.nexthop_resolver.specs.Reached.{IsReached}
use Rattle.nexthop_resolver.specs.Turns.{Turned, IsTurn}
use Rattle.nexthop_resolver.specs.Left.{TellsAlike, is_busy}
use Rattle.journal_text.specs.Lines.{Entry}
use Rattle.journal_text.specs.Lines.{Value}
use Rattle.hop_side.specs.Resolvers.{Resolvers, PeerRows, AllCounted, has_hop_work}
use Rattle.hop_side.specs.Steps.{ComesOn, TakesHop, KeepsAgreed, TurnsBelow, ReachesBelow}

-- ---- the register
-- The interests that a change reaches are one list.
abbrev pub ReachedIsOne : Type 0
ReachedIsOne =
    (w : ℕ) (p : AddressPrefix) (interests : Interest → Option (Option AddressPrefix)) (one other : List Interest) → AreReached w p interests one → AreReached w p interests other
    → one ≡ other

-- The answer about an address, and the subnet that comes with it.
abbrev pub SubnetIsOne : Type 0 → Type 0
SubnetIsOne V =
    (w : ℕ) (rows : Rows V) (a : ℕ) (m : Option AddressPrefix) (one other : AddressPrefix) → IsSubnet w rows a m one → IsSubnet w rows a m other → one ≡ other

abbrev pub CoverIsOne : Type 0 → Type 0
CoverIsOne V =
    (w : ℕ) (rows : Rows V) (a : ℕ) (m n : Option (AddressPrefix × V)) (one other : AddressPrefix) → IsCover w rows a m one → IsCover w rows a n other
    → (m ≡ n) × (one ≡ other)

abbrev pub LargestIsOne : Type 0
LargestIsOne = (rows : Rows Interior) (a : ℕ) (one other : AddressPrefix) → IsLargest rows a one → IsLargest rows a other → one ≡ other

-- What is made of a register where it gets the row, and gives up what that reaches; and what is given up.
abbrev pub RegisteredIsOne : Type 0 → Type 0
RegisteredIsOne R =
    (p : AddressPrefix) (row : Option R) (was is it : Registry R) (one other : List Interest)
    → is.rows ≡ put_row was.rows p row → AreReached width p (map.get was.interests) one → is.interests ≡ without was.interests one
    → it.rows ≡ put_row was.rows p row → AreReached width p (map.get was.interests) other → it.interests ≡ without was.interests other
    → (one ≡ other) × (is ≡ it)

-- What one client makes of a register: it keeps the interests of others, its own are those of its known next hops that aren't stale, and
-- what is recorded with an interest is the match that each address of its subnet has.
abbrev pub ClientsRegisterIsOne : Type 0 → Type 0
ClientsRegisterIsOne A =
    (kept : Option (AddressPrefix × Interior) → A) (client : ℕ) (known : Hops A) (was is it : Registry Interior)
    → KeepsOthers client was is → MatchesStand is → Agrees kept client known is
    → KeepsOthers client was it → MatchesStand it → Agrees kept client known it
    → is ≡ it

-- ---- a resolver
-- How many rows name each next hop.
abbrev pub CountsAreOne : Type 0
CountsAreOne = (named : Rows ℕ) (one other : Counts) → AreCounted named one → AreCounted named other → one ≡ other

module _ (A : Type 0) where
  abbrev pub LeastStaleIsOne : Type 0
  LeastStaleIsOne = (hops : ℕ → Option (Hop A)) (one other : Option ℕ) → IsLeastStale hops one → IsLeastStale hops other → one ≡ other

  -- What is told of a next hop, and what is known where a stale one is told of again.
  abbrev pub ToldIsOne : Type 0
  ToldIsOne =
      (kept : Option (AddressPrefix × Interior) → A) (rows : Rows Interior) (a : ℕ) (one other : Hop A) → IsToldBy kept rows a one → IsToldBy kept rows a other → one ≡ other

  abbrev pub RenewsIsOne : Type 0
  RenewsIsOne =
      (kept : Option (AddressPrefix × Interior) → A) (was : Registry Interior) (old new it : Hops A) (a : ℕ) → Renews kept was old new a → Renews kept was old it a → new ≡ it

  -- What a change leaves of a resolver, where afterwards exactly the next hops that these rows name are counted and known.
  abbrev pub KeptIsOne : Type 0
  KeptIsOne =
      (kept : Option (AddressPrefix × Interior) → A) (was : Registry Interior) (named : Rows ℕ) (old new it : Resolving A)
      → Keeps (told_of kept was) old new → AreCounted named new.counts → AreNamed new.counts new.known
      → Keeps (told_of kept was) old it → AreCounted named it.counts → AreNamed it.counts it.known
      → new ≡ it

  -- Which answers become stale, with one subnet and with interests that were given up.
  abbrev pub InvalidatedIsOne : Type 0
  InvalidatedIsOne = (s : AddressPrefix) (old new it : Resolving A) → Invalidates s old new → Invalidates s old it → new ≡ it

  abbrev pub StaleIsOne : Type 0
  StaleIsOne = (out : List Interest) (k : ℕ) (old new it : Resolving A) → IsReached out k old new → IsReached out k old it → new ≡ it

module _ (A R L : Type 0) where
  -- What a change from above makes of a resolver, and what is sent, where it leads from rows whose next hops were counted.
  abbrev pub TakesInIsOne : Type 0
  TakesInIsOne =
      (hop : R → ℕ) (made : R → A → Option L) (kept : Option (AddressPrefix × Interior) → A) (was : Registry Interior) (upper now : Rows R) (p : AddressPrefix) (change : Change R)
      (old new it : Resolving A) (sent other : Option (Change L)) → AreCounted (named_by hop upper) old.counts → IsSent upper now p (Some change)
      → TakesIn hop made old new change sent → Keeps (told_of kept was) old new → AreNamed new.counts new.known
      → TakesIn hop made old it change other → Keeps (told_of kept was) old it → AreNamed it.counts it.known
      → (new ≡ it) × (sent ≡ other)

  -- What a turn makes of a resolver, and what is sent, whatever the register is after it.
  abbrev pub TurnedIsOne : Type 0
  TurnedIsOne =
      (hop : R → ℕ) (made : R → A → Option L) (candidates : Candidates) (upper : Rows R) (kept : Option (AddressPrefix × Interior) → A) (was is it : Registry Interior)
      (old new then_new : Resolving A) (sent other : Option (Change L))
      → Turned hop made candidates upper kept was is old new sent → Turned hop made candidates upper kept was it old then_new other
      → (new ≡ then_new) × (sent ≡ other)

  -- Whether there was one, too.
  abbrev pub TurnIsOne : Type 0
  TurnIsOne =
      (hop : R → ℕ) (made : R → A → Option L) (candidates : Candidates) (upper : Rows R) (kept : Option (AddressPrefix × Interior) → A) (was is it : Registry Interior)
      (old new then_new : Resolving A) (turn other : Turn L)
      → IsTurn hop made candidates upper kept was is old new turn → IsTurn hop made candidates upper kept was it old then_new other
      → (new ≡ then_new) × (turn ≡ other)

  -- A turn is taken only where there is work. (The test tells equal answers.)
  abbrev pub TurnedHasWork : Type 0
  TurnedHasWork =
      (alike : A → A → Bool) → TellsAlike alike → (hop : R → ℕ) (made : R → A → Option L) (candidates : Candidates) (upper : Rows R) (kept : Option (AddressPrefix × Interior) → A)
      (was is : Registry Interior) (old new : Resolving A) (sent : Option (Change L)) → Turned hop made candidates upper kept was is old new sent
      → is_busy alike old ≡ true

-- ---- the side of the resolvers
-- What a change on `filt.K` makes, where it comes on rows whose next hops were counted.
abbrev pub TakesHopIsOne : Type 0
TakesHopIsOne =
    (k : ℕ) (uppers now : PeerRows) (p : AddressPrefix) (change : Change Route) (was is it : Registry Interior) (a b c : Resolvers) (sent other : Option (Change Route))
    (entries lines : List (Entry Value)) → AllCounted uppers a → ComesOn k p (Some change) uppers now
    → TakesHop k change sent was a b entries → KeepsAgreed k was is a b
    → TakesHop k change other was a c lines → KeepsAgreed k was it a c
    → (sent ≡ other) × (is ≡ it) × (b ≡ c) × (entries ≡ lines)

-- What a turn makes.
abbrev pub TurnsBelowIsOne : Type 0
TurnsBelowIsOne =
    (k : ℕ) (candidates : Candidates) (upper : Rows Route) (was is it : Registry Interior) (a b c : Resolvers) (sent other : Option (Change Route))
    (entries lines : List (Entry Value)) → TurnsBelow k candidates upper sent was is a b entries → TurnsBelow k candidates upper other was it a c lines
    → (sent ≡ other) × (is ≡ it) × (b ≡ c) × (entries ≡ lines)

-- A turn is one of a task that had work.
abbrev pub TurnsWithWork : Type 0
TurnsWithWork =
    (k : ℕ) (candidates : Candidates) (upper : Rows Route) (was is : Registry Interior) (a b : Resolvers) (sent : Option (Change Route)) (entries : List (Entry Value))
    → TurnsBelow k candidates upper sent was is a b entries → has_hop_work a k ≡ true

-- What interests make that the register gave up.
abbrev pub ReachesIsOne : Type 0
ReachesIsOne = (out : List Interest) (a b c : Resolvers) → ReachesBelow out a b → ReachesBelow out a c → b ≡ c
