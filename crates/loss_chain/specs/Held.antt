-- What lost tables still have.
use Rattle.std.specs.Prelude.{ℕ, zero, suc, ◌||◌, Bool, false, is_some, Option, Some, None}
use Rattle.std.specs.FinMap as map
use Rattle.std.specs.FinMap.{FinMap}
use Rattle.addr4.specs.Blocks.{width}
use Rattle.addr4.specs.Prefixes.{AddressPrefix, prefix_cmp, block}

module _ {R : Type 0} where
  -- whether a table, if there is one, has a row at a prefix
  abbrev pub has_row : Option (FinMap prefix_cmp R) → AddressPrefix → Bool
  has_row None q = false
  has_row (Some t) q = is_some (map.get t q)

  -- at one of the prefixes, of at most so many bits, that hold an address
  abbrev pub has_within : Option (FinMap prefix_cmp R) → ℕ → ℕ → Bool
  has_within t a zero = has_row t (block width a 0)
  has_within t a (suc n) = has_row t (block width a (suc n)) || has_within t a n

  -- at one of all that hold it
  abbrev pub has_over : Option (FinMap prefix_cmp R) → ℕ → Bool
  has_over t a = has_within t a width
