-- The rows of the link below a deletion stage, and what the stage makes of changes (NSDI 2005, section 5.1.2).
use Rattle.std.specs.Prelude.{◌≡◌, Option, Some, None, IsSome}
use Rattle.std.specs.FinMap as map
use Rattle.std.specs.FinMap.{FinMap}
use Rattle.addr4.specs.Prefixes.{AddressPrefix, prefix_cmp, ComesBefore}
use Rattle.link_change.specs.Rows.{Rows}
use Rattle.link_change.specs.Changes.{IsSent}
use Rattle.link_change.specs.Changes.{Change}

module _ {R : Type 0} where
  abbrev pub row_over : Option R → Option R → Option R
  row_over (Some held) upper = Some held
  row_over None upper = upper

  -- the rows of a table, and at every other prefix those above
  abbrev pub covered : Rows R → Rows R → Rows R
  covered table upper q = row_over (table q) (upper q)

  -- no prefix has a row in both
  abbrev pub AreApart : Rows R → Rows R → Type 0
  AreApart table upper = (q : AddressPrefix) → IsSome (table q) → upper q ≡ None

  -- where the change that comes in leads from the rows above to new ones,
  -- what goes out leads from the rows below to the new ones there
  abbrev pub PassesOn : FinMap prefix_cmp R → FinMap prefix_cmp R → Change R → Option (Change R) → Type 0
  PassesOn old new change result =
      (upper now : Rows R) (p : AddressPrefix) → IsSent upper now p (Some change)
      → IsSent (covered (map.get old) upper) (covered (map.get new) now) p result

  -- where the old table is apart from the rows above, the new one is from those after the change
  abbrev pub StaysApart : FinMap prefix_cmp R → FinMap prefix_cmp R → Change R → Type 0
  StaysApart old new change =
      (upper now : Rows R) (p : AddressPrefix) → IsSent upper now p (Some change)
      → AreApart (map.get old) upper → AreApart (map.get new) now

  -- the row stands at the prefix, and no lesser prefix has one
  abbrev pub IsLeastRow : Rows R → AddressPrefix → Option R → Type 0
  IsLeastRow rows p row = (rows p ≡ row) × IsSome row × ((q : AddressPrefix) → ComesBefore q p → rows q ≡ None)

  -- over any rows above that are apart from the old table, and then from the new one,
  -- what goes out leads from the rows below to the new ones there
  abbrev pub DeletesOn : FinMap prefix_cmp R → FinMap prefix_cmp R → Change R → Type 0
  DeletesOn old new change =
      (upper : Rows R) → AreApart (map.get old) upper
      → IsSent (covered (map.get old) upper) (covered (map.get new) upper) change.prefix (Some change)
      × AreApart (map.get new) upper
