-- Rows that are made in two ways: beyond a place by the function in force, up to it by a new one.
use Rattle.std.specs.Prelude.{◌≡◌, Option, None, if◌then◌else◌}
use Rattle.addr4.specs.Prefixes.{AddressPrefix}
use Rattle.pass_core.specs.Passed.{is_beyond}

module _ {A B : Type 0} where
  -- what a row above makes at a prefix, with a walk at this place
  abbrev pub split : (AddressPrefix → Option A → Option B) → (AddressPrefix → Option A → Option B) → Option AddressPrefix → AddressPrefix → Option A → Option B
  split in_force fresh place q row = if is_beyond place q then in_force q row else fresh q row

  -- where no row is above, none is made
  abbrev pub MakesNone : (AddressPrefix → Option A → Option B) → Type 0
  MakesNone f = (q : AddressPrefix) → f q None ≡ None
