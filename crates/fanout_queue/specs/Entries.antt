-- What is seen of the entries of a queue.
use Rattle.std.specs.Prelude.{◌≡◌, ℕ, ◌+◌, ◌-◌, ◌<◌, ◌≤◌, ◌^◌, ◌==◌, max, if◌then◌else◌, cond, List, [], ◌∷◌, ◌++◌, length, map, drop, slice_index_or, Option, Some, None, refl}
use Rattle.std.specs.Coded.{Coded, code_by, coded×, coded_ℕ, coded_list}
use Rattle.std.specs.Ordering.{eq_by_cmp}
use Rattle.std.specs.BTreeSet.{BTreeSet}
use Rattle.addr4.specs.Prefixes.{AddressPrefix, prefix_cmp}
use Rattle.link_change.specs.Rows.{Candidates, IsNextCandidate, together}
use Rattle.link_change.specs.Changes.{Change}
use Rattle.fanout_queue.specs.declared.entries.Entry as declared
use Rattle.link_change.specs.InOrder.{changed_in}
use Rattle.fanout_queue.specs.Queues.{change_code}
use Rattle.fanout_queue.specs.Index.{Key, IsIndexed}

-- an entry, whatever the family
abbrev pub Entry : Type 0 → Type 0
Entry R = declared.Entry R AddressPrefix

-- The changes that are kept, the number of the first, how many readers are to take each of them next, and the number of the
-- first that the index doesn't have. The last of the counts is that of the readers that have taken all. Where the last number
-- is below the first one, the index has nothing that is kept.
pub record Numbered (R : Type 0) : Type 0 where
  pub first : ℕ
  pub changes : List (Change R)
  pub readers : List ℕ
  pub indexed : ℕ

abbrev pub numbered_code : {R : Type 0} → Coded R → Coded (Numbered R)
numbered_code {R} c =
    code_by (ℕ × (List (Change R) × (List ℕ × ℕ))) (coded× coded_ℕ (coded× (coded_list (change_code c)) (coded× (coded_list coded_ℕ) coded_ℕ)))
    (λ x. (x.first, (x.changes, (x.readers, x.indexed)))) (λ p. record { first = p.0; changes = p.1.0; readers = p.1.1.0; indexed = p.1.1.1 }) (λ _. refl)

-- one, where this is the place
abbrev pub stands_at : ℕ → Option ℕ → ℕ
stands_at n None = 0
stands_at n (Some place) = if n == place then 1 else 0

module _ {R : Type 0} where
  -- ---- of the fields
  abbrev pub changes_of : List (Entry R) → List (Change R)
  changes_of kept = map (λ e. e.change) kept

  abbrev pub readers_of : List (Entry R) → ℕ → List ℕ
  readers_of kept at_end = map (λ e. e.readers) kept ++ at_end ∷ []

  abbrev pub numbered_of : ℕ → List (Entry R) → ℕ → ℕ → Numbered R
  numbered_of first kept at_end indexed = record { first = first; changes = changes_of kept; readers = readers_of kept at_end; indexed = indexed }

  pub record IsKept (first : ℕ) (kept : List (Entry R)) (index : BTreeSet Key) (indexed : ℕ) : Type 0 where
    pub keys : IsIndexed first (changes_of kept) index indexed
    pub until : indexed ≤ first + length (changes_of kept)
    pub fits : first + length (changes_of kept) < 2 ^ 64

  -- ---- of what is seen
  -- how many readers are to take the entry of this number next
  abbrev pub readers_at : Numbered R → ℕ → ℕ
  readers_at s number = slice_index_or s.readers (number - s.first) 0

  -- how many are to take the first entry next
  abbrev pub first_readers : Numbered R → ℕ
  first_readers s = slice_index_or s.readers 0 0

  -- the number is that of an entry, or the next one
  pub record IsPlace (s : Numbered R) (place : ℕ) : Type 0 where
    pub from : s.first ≤ place
    pub to : place ≤ s.first + length s.changes

  -- what a reader at this place hasn't taken
  abbrev pub unread_at : Numbered R → ℕ → List (Change R)
  unread_at s place = drop (place - s.first) s.changes

  -- how many changes the index doesn't have, which lookups go through
  abbrev pub unindexed : Numbered R → ℕ
  unindexed s = s.first + length s.changes - max s.first s.indexed

  -- nothing changes but what the index has
  pub record Indexes (old new : Numbered R) : Type 0 where
    pub first : new.first ≡ old.first
    pub changes : new.changes ≡ old.changes
    pub readers : new.readers ≡ old.readers

  -- an entry more, which those take next that have taken all others
  pub record Puts (old new : Numbered R) (change : Change R) : Type 0 where
    pub first : new.first ≡ old.first
    pub changes : new.changes ≡ old.changes ++ change ∷ []
    pub readers : new.readers ≡ old.readers ++ 0 ∷ []
    pub indexed : new.indexed ≡ old.indexed

  -- one reader more stands here
  pub record Enters (old new : Numbered R) (place : ℕ) : Type 0 where
    pub first : new.first ≡ old.first
    pub changes : new.changes ≡ old.changes
    pub readers : (n : ℕ) → old.first ≤ n → readers_at new n ≡ readers_at old n + stands_at n (Some place)
    pub indexed : new.indexed ≡ old.indexed

  -- one reader less
  pub record Leaves (old new : Numbered R) (place : ℕ) : Type 0 where
    pub first : new.first ≡ old.first
    pub changes : new.changes ≡ old.changes
    pub readers : (n : ℕ) → old.first ≤ n → readers_at new n + stands_at n (Some place) ≡ readers_at old n
    pub indexed : new.indexed ≡ old.indexed

  -- the first entries are dropped
  pub record Drops (old new : Numbered R) : Type 0 where
    pub from : old.first ≤ new.first
    pub to : new.first ≤ old.first + length old.changes
    pub changes : new.changes ≡ drop (new.first - old.first) old.changes
    pub readers : new.readers ≡ drop (new.first - old.first) old.readers
    pub indexed : new.indexed ≡ old.indexed

  -- the first entry is dropped
  pub record CutsFirst (old new : Numbered R) (change : Change R) : Type 0 where
    pub first : new.first ≡ old.first + 1
    pub changes : old.changes ≡ change ∷ new.changes
    pub readers : new.readers ≡ drop 1 old.readers
    pub indexed : new.indexed ≡ old.indexed

  -- the first entries are dropped, as far as no reader is to take them
  pub record Trims (old new : Numbered R) : Type 0 where
    pub drops : Drops old new
    pub unneeded : (n : ℕ) → old.first ≤ n → n < new.first → readers_at old n ≡ 0
    pub needed : first_readers new ≡ 0 → new.changes ≡ []

  -- a reader that stands here takes the entry, which is dropped, if no other reader is to take it
  pub record TakesOut (old new : Numbered R) (place : ℕ) (change : Change R) : Type 0 where
    pub from : old.first ≤ new.first
    pub to : new.first ≤ place + 1
    pub changes : new.changes ≡ drop (new.first - old.first) old.changes
    pub readers : (n : ℕ) → new.first ≤ n → readers_at new n + stands_at n (Some place) ≡ readers_at old n
    pub alone : old.first < new.first → (place ≡ old.first) × (readers_at old place ≡ 1)
    pub needed : new.first ≡ old.first → 0 < first_readers old → 0 < first_readers new
    pub taken : unread_at old place ≡ change ∷ drop (place + 1 - old.first) old.changes
    pub indexed : new.indexed ≡ old.indexed

  -- a reader goes from this place to the next, and the entry that it takes is dropped, if no other reader is to take it
  pub record Passes (old new : Numbered R) (place : ℕ) (change : Change R) : Type 0 where
    pub from : old.first ≤ new.first
    pub to : new.first ≤ place + 1
    pub changes : new.changes ≡ drop (new.first - old.first) old.changes
    pub readers : (n : ℕ) → new.first ≤ n → readers_at new n + stands_at n (Some place) ≡ readers_at old n + stands_at n (Some (place + 1))
    pub alone : old.first < new.first → (place ≡ old.first) × (readers_at old place ≡ 1)
    pub needed : 0 < first_readers old → 0 < first_readers new
    pub taken : unread_at old place ≡ change ∷ drop (place + 1 - old.first) old.changes
    pub indexed : new.indexed ≡ old.indexed

  -- the row before the first change at the prefix
  abbrev pub first_before : AddressPrefix → List (Change R) → Option (Option R)
  first_before p [] = None
  first_before p (c ∷ cs) = cond (eq_by_cmp prefix_cmp c.prefix p) (Some c.before) (first_before p cs)

  -- the next candidate of others and of the changes, where this is the next one of the others
  abbrev pub IsNextBeside : List (Change R) → Option AddressPrefix → Option AddressPrefix → Option AddressPrefix → Type 0
  IsNextBeside changes after other result =
      (others : Candidates) → IsNextCandidate others after other → IsNextCandidate (together others (changed_in changes)) after result
