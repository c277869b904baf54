-- What the fields of a table mean, and keep true.
use Rattle.std.specs.Prelude.{◌≡◌, ◌⊎◌, ℕ, ◌+◌, ◌-◌, ◌<◌, ◌^◌, Bool, is_some, count_by, false, List, [], ◌∷◌, Option, Some, None, if◌then◌else◌}
use Rattle.std.specs.Ordering.{nat_cmp, eq_by_cmp}
use Rattle.std.specs.FinMap as map
use Rattle.std.specs.FinMap.{FinMap}
use Rattle.slab.specs.Slab.{entries_from}
use Rattle.addr4.specs.Prefixes.{AddressPrefix, prefix_cmp}
use Rattle.addr4.specs.Places.{Place}
use Rattle.addr4.specs.declared.place.Place.TheVariants.{Before, At}
use Rattle.safe_table.specs.Slots.{Slot}

-- the iterators, as they are kept
abbrev pub iterators_of : List (Option Place) → FinMap nat_cmp Place
iterators_of places = map.from_entries (entries_from 0 places)

abbrev pub stands_at : AddressPrefix → Option Place → Bool
stands_at p None = false
stands_at p (Some Before) = false
stands_at p (Some (At q)) = eq_by_cmp prefix_cmp p q

-- how many iterators stand at a prefix
abbrev pub standing : AddressPrefix → List (Option Place) → ℕ
standing p [] = 0
standing p (x ∷ xs) = (if stands_at p x then 1 else 0) + standing p xs

module _ {V : Type 0} where
  abbrev pub live_value : Option (Slot V) → Option V
  live_value None = None
  live_value (Some s) = s.value

  abbrev pub readers_of : Option (Slot V) → ℕ
  readers_of None = 0
  readers_of (Some s) = s.readers

  abbrev pub with_live : FinMap prefix_cmp V → AddressPrefix → Option V → FinMap prefix_cmp V
  with_live m p None = map.remove m p
  with_live m p (Some v) = map.insert m p v

  abbrev pub live_from : List (AddressPrefix × Slot V) → FinMap prefix_cmp V
  live_from [] = map.empty
  live_from (e ∷ es) = with_live (live_from es) e.0 e.1.value

  -- the rows that were not removed
  abbrev pub live_rows : FinMap prefix_cmp (Slot V) → FinMap prefix_cmp V
  live_rows m = live_from (map.entries m)

  -- what stands at a prefix counts the iterators there, and is there without a value for them alone
  pub record IsKept (rows : FinMap prefix_cmp (Slot V)) (places : List (Option Place)) : Type 0 where
    pub counted : (p : AddressPrefix) → readers_of (map.get rows p) ≡ standing p places
    pub earned : (p : AddressPrefix) (s : Slot V) → map.get rows p ≡ Some s → s.value ≡ None → 0 < s.readers

  -- so few iterators that each slot can count those that stand there
  pub record IsSound (rows : FinMap prefix_cmp (Slot V)) (places : List (Option Place)) (count : ℕ) : Type 0 where
    pub kept : IsKept rows places
    pub counts : count ≡ map.len (live_rows rows)
    pub few : count_by is_some places < 2 ^ 32

  -- one iterator less stands at a prefix
  abbrev pub Leaves : FinMap prefix_cmp (Slot V) → FinMap prefix_cmp (Slot V) → AddressPrefix → Slot V → Type 0
  Leaves old new p s =
      ((new ≡ map.remove old p) × (s.value ≡ None) × (s.readers ≡ 1))
      ⊎ ((new ≡ map.insert old p (record s { readers = s.readers - 1 })) × (s.value ≡ None → s.readers ≡ 1 → ⊥))

abbrev pub MatchPlace : Place → Type 0 → (AddressPrefix → Type 0) → Type 0
MatchPlace Before P Q = P
MatchPlace (At p) P Q = Q p
