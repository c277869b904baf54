-- What follows from an answer, and from a change that doesn't reach an interest.
use Rattle.std.specs.Prelude.{◌≡◌, ℕ, Option}
use Rattle.addr4.specs.Prefixes.{AddressPrefix, IsMasked, Holds}
use Rattle.link_change.specs.Rows.{Rows, with_row}
use Rattle.register_interest.specs.Width.{width}
use Rattle.register_interest.specs.Covers.{longest, IsCover, IsHit, Stands, IsLongest}

-- what is computed is the longest row
abbrev pub LongestIsLongest : Type 0 → Type 0
LongestIsLongest V = (rows : Rows V) (a : ℕ) → IsLongest width rows a (longest width rows a)

-- each address of the answered subnet has the same longest row
abbrev pub OneMatch : Type 0 → Type 0
OneMatch V = (rows : Rows V) (a b : ℕ) (m : Option (AddressPrefix × V)) (s : AddressPrefix) → IsCover width rows a m s → Holds width s b → longest width rows b ≡ m

-- a change at p that doesn't reach a subnet with its match leaves the longest row of each of its addresses
abbrev pub NotHit : Type 0 → Type 0
NotHit V = (rows : Rows V) (p s : AddressPrefix) (new : Option V) (m : Option AddressPrefix) → IsMasked width p → IsMasked width s → Stands width rows s m → (IsHit width p s m → ⊥)
    → (a : ℕ) → Holds width s a → longest width (with_row rows p new) a ≡ longest width rows a
