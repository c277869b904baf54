-- The rows that a cache keeps, and what it makes of changes.
use Rattle.std.specs.Prelude.{◌≡◌, Option, Some, None}
use Rattle.std.specs.FinMap as map
use Rattle.std.specs.FinMap.{FinMap}
use Rattle.addr4.specs.Prefixes.{AddressPrefix, prefix_cmp}
use Rattle.link_change.specs.Rows.{Rows}
use Rattle.link_change.specs.Changes.{IsSent}
use Rattle.link_change.specs.Changes.{Change}

module _ {R : Type 0} where
  -- the row after a change is the one at its prefix
  abbrev pub kept_after : FinMap prefix_cmp R → AddressPrefix → Option R → FinMap prefix_cmp R
  kept_after rows p None = map.remove rows p
  kept_after rows p (Some row) = map.insert rows p row

  -- Where the change that comes in leads from the rows above to new ones, and the cache had the rows above, what goes out leads
  -- from the rows below, which are the cache's, to the new ones there, and the cache has the new rows above.
  abbrev pub CachesOn : FinMap prefix_cmp R → FinMap prefix_cmp R → Change R → Change R → Type 0
  CachesOn old new change sent =
      (upper now : Rows R) (p : AddressPrefix) → IsSent upper now p (Some change) → map.get old ≡ upper
      → IsSent (map.get old) (map.get new) p (Some sent) × (map.get new ≡ now)
