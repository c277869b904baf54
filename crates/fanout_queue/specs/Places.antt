-- What the fields of a queue mean, and keep true.
use Rattle.std.specs.Prelude.{◌≡◌, ℕ, suc, ◌+◌, ◌≤◌, ◌<◌, List, [], ◌∷◌, slice_index_or, Option, Some, None, IsSome}
use Rattle.std.specs.List.{sum_by}
use Rattle.std.specs.FinMap as map
use Rattle.link_change.specs.Changes.{Change}
use Rattle.fanout_queue.specs.Queues.{Queued}
use Rattle.fanout_queue.specs.Entries.{Numbered, IsPlace, readers_at, first_readers, unread_at, stands_at}

-- this number has the place from now on, and no other number another one
pub record SetsPlace (old new : List (Option ℕ)) (number : ℕ) (place : Option ℕ) : Type 0 where
  pub changed : slice_index_or new number None ≡ place
  pub others : (k : ℕ) → (k ≡ number → ⊥) → slice_index_or new k None ≡ slice_index_or old k None
  pub counts : (n : ℕ) → sum_by (stands_at n) new + stands_at n (slice_index_or old number None) ≡ sum_by (stands_at n) old + stands_at n place

-- there is a reader of each number below this one
abbrev pub AllBelowPlaced : List (Option ℕ) → ℕ → Type 0
AllBelowPlaced places number = (n : ℕ) → n < number → IsSome (slice_index_or places n None)

module _ {R : Type 0} where
  -- the readers from this number on
  abbrev pub queued_from : ℕ → (ℕ → List (Change R)) → List (Option ℕ) → Queued R
  queued_from k unread [] = map.empty
  queued_from k unread (None ∷ rest) = queued_from (suc k) unread rest
  queued_from k unread (Some place ∷ rest) = map.insert (queued_from (suc k) unread rest) k (unread place)

  -- what each reader hasn't taken
  abbrev pub queued_of : Numbered R → List (Option ℕ) → Queued R
  queued_of entries places = queued_from 0 (unread_at entries) places

  abbrev pub IsPlaced : Numbered R → Option ℕ → Type 0
  IsPlaced entries None = Unit {0}
  IsPlaced entries (Some place) = IsPlace entries place

  -- each reader stands at an entry or behind the last, is counted there, and nothing is kept that all have taken
  pub record IsQueue (entries : Numbered R) (places : List (Option ℕ)) : Type 0 where
    pub placed : (k : ℕ) → IsPlaced entries (slice_index_or places k None)
    pub counted : (n : ℕ) → entries.first ≤ n → readers_at entries n ≡ sum_by (stands_at n) places
    pub needed : first_readers entries ≡ 0 → entries.changes ≡ []
