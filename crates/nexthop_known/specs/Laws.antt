-- Laws of known next hops, for the crates above.
use Rattle.std.specs.Prelude.{◌≡◌, ◌↔◌, ℕ, ◌+◌, ◌<◌, ◌≤◌, true, false, Bool, Option, Some, None}
use Rattle.std.specs.FinMap as map
use Rattle.addr4.specs.Prefixes.{AddressPrefix, Holds}
use Rattle.link_change.specs.Rows.{Rows, no_rows, with_row}
use Rattle.register_interest.specs.Width.{width}
use Rattle.nexthop_known.specs.Hops.{Hop}
use Rattle.nexthop_known.specs.Hops.{Hops, IsMapped, settled, came_at, IsLeastStale, IsWithSome, IsWithNone, IsUnshared, count_of, stale_count}
use Rattle.nexthop_known.specs.Counts.{Counts, one_more, one_less, AreCounted, Recounts}
use Rattle.nexthop_known.specs.Agreement.{Agree, IsPutAt, IsInterestIn, GivesUp}

-- ---- how many rows name each next hop
-- Where there is no row, none is named.
abbrev pub NothingIsCounted : Type 0
NothingIsCounted = AreCounted no_rows map.empty

-- One row more, one less, and one for another.
abbrev pub OneMoreCounts : Type 0
OneMoreCounts = (counts : Counts) (a : ℕ) → Recounts None (Some a) counts (one_more counts a)

abbrev pub OneLessCounts : Type 0
OneLessCounts = (counts : Counts) (a : ℕ) → Recounts (Some a) None counts (one_less counts a)

abbrev pub OneForAnother : Type 0
OneForAnother = (old mid new : Counts) (before after : Option ℕ) → Recounts None after old mid → Recounts before None mid new → Recounts before after old new

-- One more and then one less is as before.
abbrev pub MoreAndLess : Type 0
MoreAndLess = (counts : Counts) (a : ℕ) → one_less (one_more counts a) a ≡ counts

-- The counts follow the change of a row.
abbrev pub CountsFollow : Type 0
CountsFollow =
    (named : Rows ℕ) (p : AddressPrefix) (after : Option ℕ) (old new : Counts) → AreCounted named old → Recounts (named p) after old new
    → AreCounted (with_row named p after) new

-- A next hop has a count exactly where some row names it.
abbrev pub NamedIsCounted : Type 0
NamedIsCounted = (named : Rows ℕ) (counts : Counts) (q : AddressPrefix) (a : ℕ) → AreCounted named counts → named q ≡ Some a → map.contains_key counts a ≡ true

abbrev pub CountedIsNamed : Type 0
CountedIsNamed = (named : Rows ℕ) (counts : Counts) (a : ℕ) → AreCounted named counts → map.contains_key counts a ≡ true → (q : AddressPrefix) × (named q ≡ Some a)

-- ---- the register's answers
module _ (A : Type 0) where
  -- Where no next hop is known and no interest kept, they agree.
  abbrev pub NothingAgrees : Type 0
  NothingAgrees = (answer : ℕ → A) (interested : AddressPrefix → Bool) → ((s : AddressPrefix) → interested s ≡ false) → Agree answer interested (λ (_ : ℕ). None)

  -- A next hop that was unknown or stale gets the present answer, and the interest in its subnet is kept.
  abbrev pub AnsweredAgrees : Type 0
  AnsweredAgrees =
      (answer : ℕ → A) (was is : AddressPrefix → Bool) (old new : ℕ → Option (Hop A)) (a : ℕ) (h : Hop A) (s : AddressPrefix) → Agree answer was old
      → came_at (old a) ≡ None → IsPutAt old new a (Some h) → h.fresh ≡ answer a → h.came ≡ Some s → Holds width s a → IsInterestIn was is s true
      → Agree answer is new

  -- An interest that came too early is given up, unless a next hop needs it.
  abbrev pub EarlyAgrees : Type 0
  EarlyAgrees =
      (answer : ℕ → A) (was is : AddressPrefix → Bool) (hops : ℕ → Option (Hop A)) (s : AddressPrefix) → Agree answer was hops → IsInterestIn was is s true
      → IsWithSome hops s → Agree answer is hops

  abbrev pub EarlyIsGivenUp : Type 0
  EarlyIsGivenUp =
      (answer : ℕ → A) (was is then_is : AddressPrefix → Bool) (hops : ℕ → Option (Hop A)) (s : AddressPrefix) → Agree answer was hops → IsInterestIn was is s true
      → IsWithNone hops s → IsInterestIn is then_is s false → Agree answer then_is hops

  -- A next hop is forgotten, and its interest given up unless another one needs it.
  abbrev pub ForgottenAgrees : Type 0
  ForgottenAgrees =
      (answer : ℕ → A) (was is : AddressPrefix → Bool) (old new : ℕ → Option (Hop A)) (a : ℕ) (h : Hop A) (up : Option AddressPrefix) → Agree answer was old
      → old a ≡ Some h → IsPutAt old new a None → IsUnshared new h.came up → GivesUp was is up → Agree answer is new

  -- Fresh answers come into force.
  abbrev pub SettledAgrees : Type 0
  SettledAgrees =
      (answer : ℕ → A) (interested : AddressPrefix → Bool) (old new : Hops A) → Agree answer interested (map.get old) → IsMapped settled old new
      → Agree answer interested (map.get new)

  -- ---- how many next hops pass a test that none passes which isn't known
  abbrev pub IsOfKnown : (Option (Hop A) → Bool) → Type 0
  IsOfKnown test = test None ≡ false

  abbrev pub NoneCounts : Type 0
  NoneCounts = (test : Option (Hop A) → Bool) (hops : Hops A) → ((a : ℕ) → test (map.get hops a) ≡ false) → count_of test hops ≡ 0

  abbrev pub SomeCounts : Type 0
  SomeCounts = (test : Option (Hop A) → Bool) (hops : Hops A) (a : ℕ) → IsOfKnown test → test (map.get hops a) ≡ true → 0 < count_of test hops

  -- one that passed passes no more
  abbrev pub OneCountsNoMore : Type 0
  OneCountsNoMore =
      (test : Option (Hop A) → Bool) (hops : Hops A) (a : ℕ) (h : Hop A) → IsOfKnown test → test (map.get hops a) ≡ true → test (Some h) ≡ false
      → count_of test (map.insert hops a h) + 1 ≡ count_of test hops

  -- the same ones pass
  abbrev pub SameCount : Type 0
  SameCount =
      (test : Option (Hop A) → Bool) (old new : Hops A) → IsOfKnown test → ((a : ℕ) → test (map.get new a) ≡ test (map.get old a))
      → count_of test new ≡ count_of test old

  abbrev pub KnownCount : Type 0
  KnownCount = (test : Option (Hop A) → Bool) (hops : Hops A) → count_of test hops ≤ map.len hops

  -- none is stale exactly where none counts as stale
  abbrev pub NoneStale : Type 0
  NoneStale = (hops : Hops A) → IsLeastStale (map.get hops) None ↔ (stale_count hops ≡ 0)
