-- What a change from above makes of a resolver, and what goes on below.
use Rattle.std.specs.Prelude.{◌≡◌, ◌⊎◌, ℕ, Option, Some, None}
use Rattle.std.specs.FinMap as map
use Rattle.addr4.specs.Prefixes.{AddressPrefix}
use Rattle.link_change.specs.Rows.{Rows}
use Rattle.link_change.specs.Changes.{IsSent}
use Rattle.link_change.specs.Changes.{Change}
use Rattle.nexthop_known.specs.Hops.{Hop}
use Rattle.nexthop_known.specs.Hops.{Hops, IsMapped, IsPartlyMapped, staled}
use Rattle.nexthop_known.specs.Counts.{AreCounted, Recounts}
use Rattle.nexthop_resolver.specs.Resolving.{Resolving, named_by, res_rows}

module _ {A : Type 0} where
  -- a next hop that wasn't known is told what there is to tell
  pub record IsNew (told : ℕ → Hop A → Type 0) (old : Hops A) (a : ℕ) (h : Hop A) : Type 0 where
    pub unknown : map.get old a ≡ None
    pub is_told : told a h

  -- what is known was known, with the same answers
  abbrev pub KeepsOnly : Hops A → Hops A → Type 0
  KeepsOnly old new = (a : ℕ) (h : Hop A) → map.get new a ≡ Some h → map.get old a ≡ Some h

  -- or it is new
  abbrev pub KeepsOrLearns : (ℕ → Hop A → Type 0) → Hops A → Hops A → Type 0
  KeepsOrLearns told old new = (a : ℕ) (h : Hop A) → map.get new a ≡ Some h → (map.get old a ≡ Some h) ⊎ IsNew told old a h

  -- a row that named the first next hop, or none, names the second now, or none
  pub record Moves (told : ℕ → Hop A → Type 0) (before after : Option ℕ) (old new : Resolving A) : Type 0 where
    pub client : new.client ≡ old.client
    pub walk : new.walk ≡ old.walk
    pub counts : Recounts before after old.counts new.counts
    pub hops : KeepsOrLearns told old.known new.known

  -- what one change leaves: the client, the walk, and the next hops that stay known with their answers
  pub record Keeps (told : ℕ → Hop A → Type 0) (old new : Resolving A) : Type 0 where
    pub client : new.client ≡ old.client
    pub walk : new.walk ≡ old.walk
    pub hops : KeepsOrLearns told old.known new.known

  -- the answers that came with the subnet are stale, and all else is as it was
  pub record Invalidates (s : AddressPrefix) (old new : Resolving A) : Type 0 where
    pub client : new.client ≡ old.client
    pub walk : new.walk ≡ old.walk
    pub counts : new.counts ≡ old.counts
    pub known : IsMapped (staled s) old.known new.known

  -- some of the answers that came with the subnet are stale, and all else is as it was
  pub record PartlyInvalidates (s : AddressPrefix) (old new : Resolving A) : Type 0 where
    pub client : new.client ≡ old.client
    pub walk : new.walk ≡ old.walk
    pub counts : new.counts ≡ old.counts
    pub known : IsPartlyMapped (staled s) old.known new.known

module _ {A R L : Type 0} (hop : R → ℕ) (made : R → A → Option L) where
  -- The next hops of the rows above are counted, and the rows below led from the old ones to the new ones.
  pub record TakesOver (old new : Resolving A) (upper now : Rows R) (p : AddressPrefix) (sent : Option (Change L)) : Type 0 where
    pub counted : AreCounted (named_by hop now) new.counts
    pub sent_is : IsSent (res_rows hop made old upper) (res_rows hop made new now) p sent

  -- So it is for any rows above that the change leads on, where their next hops were counted before.
  abbrev pub TakesIn : Resolving A → Resolving A → Change R → Option (Change L) → Type 0
  TakesIn old new change sent =
      (upper now : Rows R) (p : AddressPrefix) → AreCounted (named_by hop upper) old.counts → IsSent upper now p (Some change) → TakesOver old new upper now p sent
