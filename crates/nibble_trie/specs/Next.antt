-- The first of the keys that an index leads to.
use Rattle.std.specs.Prelude.{◌≡◌, ◌⊎◌, ℕ, ◌+◌, ◌*◌, ◌<◌, ◌≤◌, Option}
use Rattle.addr4.specs.Prefixes.{AddressPrefix}
use Rattle.nibble_trie.specs.declared.link.Target.{Target}
use Rattle.nibble_trie.specs.declared.index.Index.{Index}
use Rattle.nibble_trie.specs.Keys.{IsNextOf, IsFrom}
use Rattle.nibble_trie.specs.Index.{Layout, IsLaid, Stands, Lies, high}

-- the prefixes from an address and a length on: of a place, and of a branch from a digit on
pub record FromAt (layout : Layout) (at : Option (ℕ × ℕ)) (a least : ℕ) (p : AddressPrefix) : Type 0 where
  pub lies : Lies layout at p.address
  pub from : IsFrom a least p

pub record FromIn (layout : Layout) (branch digit a least : ℕ) (p : AddressPrefix) : Type 0 where
  pub low : layout.block branch * 16 + digit ≤ high (layout.level branch) p.address
  pub top : high (layout.level branch) p.address < layout.block branch * 16 + 16
  pub from : IsFrom a least p

-- an address to begin with is one of the place, or every prefix counts
abbrev pub IsStart : Layout → Option (ℕ × ℕ) → ℕ → ℕ → Type 0
IsStart layout at from least = ((from ≡ 0) × (least ≡ 0)) ⊎ Lies layout at from

-- an index of these keys, with a place to begin at
pub record Starts (keys : ℕ → Option AddressPrefix) (index : Index) (heads : ℕ → Option ℕ) (layout : Layout) (at : Option (ℕ × ℕ)) (target : Target) (level from least : ℕ) : Type 0 where
  pub holds : IsLaid index heads layout
  pub shortest : (a : ℕ) → IsNextOf keys a 0 (heads a)
  pub stands : Stands index layout (record { at = at; level = level; target = target })
  pub start : IsStart layout at from least

-- some place whose link leads there
pub record CanStart (keys : ℕ → Option AddressPrefix) (index : Index) (target : Target) (level from least : ℕ) : Type 0 where
  pub heads : ℕ → Option ℕ
  pub layout : Layout
  pub at : Option (ℕ × ℕ)
  pub starts : Starts keys index heads layout at target level from least
