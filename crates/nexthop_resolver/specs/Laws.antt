-- Laws of resolvers, for the crates above.
use Rattle.std.specs.Prelude.{◌≡◌, ◌≢◌, ◌↔◌, ℕ, ◌+◌, ◌*◌, ◌≤◌, Bool, false, List, [], ◌∷◌, ◌++◌, length, Option, Some, None, IsSome}
use Rattle.std.specs.List.{Contains}
use Rattle.std.specs.Option.{option_map}
use Rattle.std.specs.FinMap as map
use Rattle.addr4.specs.Prefixes.{AddressPrefix}
use Rattle.link_change.specs.Rows.{Rows, no_rows, Candidates}
use Rattle.link_change.specs.Turns.{IsTurned}
use Rattle.link_change.specs.Changes.{Change}
use Rattle.link_change.specs.Turns.{Turn}
use Rattle.rib_route.specs.Rows.{Interior}
use Rattle.register_interest.specs.Interests.{Interest}
use Rattle.register_interest.specs.Interests.{without}
use Rattle.register_interest.specs.Registers.{Registry, KeepsAnswers}
use Rattle.nexthop_known.specs.Hops.{stale_count}
use Rattle.nexthop_known.specs.Counts.{AreCounted}
use Rattle.nexthop_resolver.specs.Kept.{same_metric, same_way}
use Rattle.nexthop_resolver.specs.Resolving.{Resolving, AreNamed, nothing_known, named_by, goes_on, res_rows}
use Rattle.nexthop_resolver.specs.Registered.{Agrees, answer_of, interest_of, KeepsOthers}
use Rattle.nexthop_resolver.specs.Takes.{Invalidates}
use Rattle.nexthop_resolver.specs.Reached.{IsReached, IsReachedBy}
use Rattle.nexthop_resolver.specs.Turns.{Rests, Turned, IsTurn}
use Rattle.pass_core.specs.Left.{CountsBeyond}
use Rattle.nexthop_resolver.specs.Left.{TellsAlike, hop_lags, is_busy, turns_left}

module _ (A R L : Type 0) where
  -- What a turn sends leads from the rows below before it to those after it.
  abbrev pub TurnLeads : Type 0
  TurnLeads =
      (hop : R → ℕ) (made : R → A → Option L) (candidates : Candidates) (upper : Rows R) (kept : Option (AddressPrefix × Interior) → A) (was is : Registry Interior)
      (old new : Resolving A) (turn : Turn L) → IsTurn hop made candidates upper kept was is old new turn
      → IsTurned (res_rows hop made old upper) (res_rows hop made new upper) turn

  -- Where answers become stale, no row below changes.
  abbrev pub InvalidatingKeepsRows : Type 0
  InvalidatingKeepsRows =
      (hop : R → ℕ) (made : R → A → Option L) (upper : Rows R) (s : AddressPrefix) (old new : Resolving A) → Invalidates s old new
      → res_rows hop made new upper ≡ res_rows hop made old upper

  abbrev pub ReachedKeepsRows : Type 0
  ReachedKeepsRows =
      (hop : R → ℕ) (made : R → A → Option L) (upper : Rows R) (out : List Interest) (k : ℕ) (old new : Resolving A) → IsReached out k old new
      → res_rows hop made new upper ≡ res_rows hop made old upper

  -- At a prefix that no next hop holds up, the row below is the one that the register's answer makes. (The test tells equal answers.)
  abbrev pub ExactUnlessHeldUp : Type 0
  ExactUnlessHeldUp =
      (alike : A → A → Bool) → TellsAlike alike → (hop : R → ℕ) (made : R → A → Option L) (kept : Option (AddressPrefix × Interior) → A) (upper : Rows R) (r : Registry Interior)
      (s : Resolving A) (q : AddressPrefix) → Agrees kept s.client s.known r → AreNamed s.counts s.known → AreCounted (named_by hop upper) s.counts
      → hop_lags alike s q (option_map hop (upper q)) ≡ false
      → res_rows hop made s upper q ≡ goes_on hop made (λ (a : ℕ). Some (answer_of kept r a)) (upper q)

  -- Before the first row there is none below.
  abbrev pub NoRowsAtFirst : Type 0
  NoRowsAtFirst = (hop : R → ℕ) (made : R → A → Option L) (client : ℕ) → res_rows hop made (nothing_known {A = A} client) no_rows ≡ no_rows

  -- A turn that is taken leaves fewer.
  abbrev pub TurnsFall : Type 0
  TurnsFall =
      (hop : R → ℕ) (made : R → A → Option L) (candidates : Candidates) (upper : Rows R) (kept : Option (AddressPrefix × Interior) → A) (was is : Registry Interior)
      (alike : A → A → Bool) (beyond : Option AddressPrefix → ℕ) (old new : Resolving A) (sent : Option (Change L)) → TellsAlike alike → CountsBeyond candidates beyond
      → Turned hop made candidates upper kept was is old new sent → turns_left alike beyond new + 1 ≤ turns_left alike beyond old

module _ (A : Type 0) where
  -- Where there is nothing to do, no next hop holds up a prefix.
  abbrev pub NoneHeldUpAtRest : Type 0
  NoneHeldUpAtRest =
      (alike : A → A → Bool) → TellsAlike alike → (s : Resolving A) (q : AddressPrefix) (o : Option ℕ) → Rests s → hop_lags alike s q o ≡ false

  -- A client without interests agrees with any register before its first row.
  abbrev pub NothingAgrees : Type 0
  NothingAgrees =
      (kept : Option (AddressPrefix × Interior) → A) (client : ℕ) (r : Registry Interior) → ((s : AddressPrefix) → interest_of client r s ≡ false)
      → Agrees kept client map.empty r

  -- What other clients do leaves the agreement as it is.
  abbrev pub OthersAgree : Type 0
  OthersAgree =
      (kept : Option (AddressPrefix × Interior) → A) (client other : ℕ) (s : Resolving A) (was is : Registry Interior) → client ≢ other → KeepsOthers other was is
      → Agrees kept client s.known was → Agrees kept client s.known is

  -- After a change of the interior routes a resolver agrees again once the answers that came with the interests that were given up are
  -- stale.
  abbrev pub ReachedAgrees : Type 0
  ReachedAgrees =
      (kept : Option (AddressPrefix × Interior) → A) (k : ℕ) (out : List Interest) (was is : Registry Interior) (old new : Resolving A) → old.client ≡ k
      → Agrees kept old.client old.known was → is.interests ≡ without was.interests out → KeepsAnswers was is → IsReached out k old new
      → Agrees kept new.client new.known is

  -- Of no interests nothing becomes stale; and of these and one more, what becomes stale of these and then of that one.
  abbrev pub ReachedByNone : Type 0
  ReachedByNone = (k : ℕ) (s : Resolving A) → IsReached [] k s s

  abbrev pub ReachedThen : Type 0
  ReachedThen =
      (out : List Interest) (i : Interest) (k : ℕ) (old mid new : Resolving A) → IsReached out k old mid → IsReachedBy i k mid new
      → IsReached (out ++ i ∷ []) k old new

  -- As many next hops are known, exactly those that rows name.
  abbrev pub ReachedAreKnown : Type 0
  ReachedAreKnown =
      (out : List Interest) (k : ℕ) (old new : Resolving A) → IsReached out k old new
      → (map.len new.known ≡ map.len old.known) × (AreNamed old.counts old.known → AreNamed new.counts new.known)

  -- No turn is left exactly where there is nothing to do.
  abbrev pub NoneLeftAtRest : Type 0
  NoneLeftAtRest =
      (alike : A → A → Bool) (beyond : Option AddressPrefix → ℕ) (s : Resolving A) → TellsAlike alike → Rests s ↔ (turns_left alike beyond s ≡ 0)

  -- And so exactly without work.
  abbrev pub NoneLeftWithoutWork : Type 0
  NoneLeftWithoutWork =
      (alike : A → A → Bool) (beyond : Option AddressPrefix → ℕ) (s : Resolving A) → (is_busy alike s ≡ false) ↔ (turns_left alike beyond s ≡ 0)

  -- No more turns are left than one for each stale next hop, of which there are no more than known ones, and two walks.
  pub record IsBounded (alike : A → A → Bool) (beyond : Option AddressPrefix → ℕ) (s : Resolving A) : Type 0 where
    pub turns : turns_left alike beyond s ≤ 2 * (beyond None + 1) + stale_count s.known
    pub stale : stale_count s.known ≤ map.len s.known

  abbrev pub TurnsAreBounded : Type 0
  TurnsAreBounded =
      (alike : A → A → Bool) (beyond : Option AddressPrefix → ℕ) (s : Resolving A) → ((place : Option AddressPrefix) → beyond place ≤ beyond None)
      → IsBounded alike beyond s

  -- Where no more candidates lie beyond any place than before, no more turns are left.
  abbrev pub LeftFollows : Type 0
  LeftFollows =
      (alike : A → A → Bool) (before now : Option AddressPrefix → ℕ) (s : Resolving A) → ((place : Option AddressPrefix) → now place ≤ before place)
      → turns_left alike now s ≤ turns_left alike before s

module _ (A R : Type 0) where
  -- No more next hops are known than rows name them: than the prefixes of a list that has the prefix of each row above.
  abbrev pub KnownAreFew : Type 0
  KnownAreFew =
      (hop : R → ℕ) (upper : Rows R) (s : Resolving A) (prefixes : List AddressPrefix) → AreNamed s.counts s.known → AreCounted (named_by hop upper) s.counts
      → ((q : AddressPrefix) → IsSome (upper q) → Contains prefixes q) → map.len s.known ≤ length prefixes

-- The tests of answers tell equal ones.
pub record AnswersAreTold : Type 0 where
  pub metrics : TellsAlike same_metric
  pub ways : TellsAlike same_way
