-- What an index of leaves by their addresses keeps true.
use Rattle.std.specs.Prelude.{◌≡◌, ◌≢◌, ℕ, ◌+◌, ◌*◌, ◌/◌, ◌%◌, ◌^◌, ◌<◌, ◌≤◌, Option, Some, None, if◌then◌else◌, nat_eq}
use Rattle.slab.specs.Slab.{get, ContainsKey}
use Rattle.addr4.specs.Prefixes.{AddressPrefix}
use Rattle.nibble_trie.specs.declared.link.Target.{Target}
use Rattle.nibble_trie.specs.declared.link.Target.TheVariants.{Nothing, Leaf, Inner}
use Rattle.nibble_trie.specs.declared.branch.Branch.{Branch}
use Rattle.nibble_trie.specs.declared.index.Index.{Index}
use Rattle.nibble_trie.specs.declared.index.Spot.{Spot}
use Rattle.nibble_trie.specs.declared.index.End.{End}
use Rattle.nibble_trie.specs.Links.{leads, target_at, IsCell}

-- ---- the places of links: the root's, and those of each digit of each branch
abbrev pub target_in : Option Branch → ℕ → Target
target_in None digit = Nothing
target_in (Some branch) digit = target_at branch digit

-- where the link at a place leads
abbrev pub link_at : Index → Option (ℕ × ℕ) → Target
link_at index None = leads index.root
link_at index (Some at) = target_in (get index.branches at.0) at.1

abbrev pub is_live : Index → ℕ → Type 0
is_live index branch = ContainsKey index.branches branch

abbrev pub IsPlace : (ℕ → Type 0) → Option (ℕ × ℕ) → Type 0
IsPlace live None = Unit {0}
IsPlace live (Some at) = live at.0 × (at.1 < 16)

-- ---- the addresses of a place
-- an address without its last digits, so many of four bits
abbrev pub high : ℕ → ℕ → ℕ
high level a = a / 2 ^ (4 * level)

-- of each branch, how many digits come behind the one that its links are for, and which came before
pub record Layout : Type 0 where
  pub level : ℕ → ℕ
  pub block : ℕ → ℕ

abbrev pub level_of : Layout → Option (ℕ × ℕ) → ℕ
level_of layout None = 32
level_of layout (Some at) = layout.level at.0

abbrev pub block_of : Layout → Option (ℕ × ℕ) → ℕ
block_of layout None = 0
block_of layout (Some at) = layout.block at.0 * 16 + at.1

abbrev pub Lies : Layout → Option (ℕ × ℕ) → ℕ → Type 0
Lies layout at a = high (level_of layout at) a ≡ block_of layout at

-- ---- the invariant
-- nothing stands for no address, a leaf for one, and a branch for those before it and one digit more
abbrev pub Fits : (ℕ → Type 0) → (ℕ → Option ℕ) → Layout → Option (ℕ × ℕ) → Target → Type 0
Fits live heads layout at Nothing = (a : ℕ) → Lies layout at a → heads a ≡ None
Fits live heads layout at (Leaf key) = (a : ℕ) × Lies layout at a × (heads a ≡ Some key) × ((b : ℕ) → Lies layout at b → b ≢ a → heads b ≡ None)
Fits live heads layout at (Inner branch) = live branch × (level_of layout at ≡ layout.level branch + 1) × (block_of layout at ≡ layout.block branch)

-- the links lead each address to its leaf, and each branch hangs at one link
pub record Holds (live : ℕ → Type 0) (links : Option (ℕ × ℕ) → Target) (heads : ℕ → Option ℕ) (layout : Layout) : Type 0 where
  pub fits : (at : Option (ℕ × ℕ)) → IsPlace live at → Fits live heads layout at (links at)
  pub apart : (at other : Option (ℕ × ℕ)) (a : ℕ) → IsPlace live at → IsPlace live other → IsCell (links at) → IsCell (links other) → Lies layout at a → Lies layout other a → at ≡ other
  pub single : (at other : Option (ℕ × ℕ)) (branch : ℕ) → IsPlace live at → IsPlace live other → links at ≡ Inner branch → links other ≡ Inner branch → at ≡ other

abbrev pub IsLaid : Index → (ℕ → Option ℕ) → Layout → Type 0
IsLaid index heads layout = Holds (is_live index) (link_at index) heads layout

-- an index of these leaves
pub record Indexes (index : Index) (heads : ℕ → Option ℕ) : Type 0 where
  pub layout : Layout
  pub holds : IsLaid index heads layout

-- each leaf of the index has its address
abbrev pub Names : (ℕ → Option AddressPrefix) → (ℕ → Option ℕ) → Type 0
Names keys heads = (a k : ℕ) → heads a ≡ Some k → (p : AddressPrefix) × (keys k ≡ Some p) × (p.address ≡ a)

-- another leaf, or none, at an address
abbrev pub with_head : (ℕ → Option ℕ) → ℕ → Option ℕ → ℕ → Option ℕ
with_head heads a head b = if nat_eq b a then head else heads b

-- ---- a place as the code knows it
pub record Stands (index : Index) (layout : Layout) (spot : Spot) : Type 0 where
  pub place : IsPlace (is_live index) spot.at
  pub level : level_of layout spot.at ≡ spot.level
  pub leads : link_at index spot.at ≡ spot.target
  pub short : spot.level ≤ 32

-- no other address of the place has a leaf
abbrev pub IsAlone : (ℕ → Option ℕ) → Layout → Option (ℕ × ℕ) → ℕ → Type 0
IsAlone heads layout at a = (b : ℕ) → Lies layout at b → b ≢ a → heads b ≡ None

-- it has the address
pub record OnWay (index : Index) (layout : Layout) (a : ℕ) (spot : Spot) : Type 0 where
  pub stands : Stands index layout spot
  pub lies : Lies layout spot.at a

-- however the index is laid
abbrev pub IsSpotOf : Index → ℕ → Spot → Type 0
IsSpotOf index a spot = (heads : ℕ → Option ℕ) (layout : Layout) → IsLaid index heads layout → OnWay index layout a spot

-- the place where a way ends, of the address that led there
abbrev pub spot_at : End → ℕ → Spot
spot_at end a = record { at = if nat_eq end.level 32 then None else Some (end.branch, high end.level a % 16); level = end.level; target = leads end.link }

pub record HasHeads (index : Index) : Type 0 where
  pub heads : ℕ → Option ℕ
  pub indexes : Indexes index heads

pub record HasWay (index : Index) (a : ℕ) (spot : Spot) : Type 0 where
  pub heads : ℕ → Option ℕ
  pub layout : Layout
  pub holds : IsLaid index heads layout
  pub way : OnWay index layout a spot

pub record HasNamedWay (keys : ℕ → Option AddressPrefix) (index : Index) (a : ℕ) (spot : Spot) : Type 0 where
  pub heads : ℕ → Option ℕ
  pub layout : Layout
  pub holds : IsLaid index heads layout
  pub names : Names keys heads
  pub way : OnWay index layout a spot

pub record HasLoneWay (index : Index) (a : ℕ) (spot : Spot) : Type 0 where
  pub heads : ℕ → Option ℕ
  pub layout : Layout
  pub holds : IsLaid index heads layout
  pub way : OnWay index layout a spot
  pub alone : IsAlone heads layout spot.at a

-- a place of the address whose link leads to nothing
pub record IsBare (index : Index) (a : ℕ) (at : Option (ℕ × ℕ)) : Type 0 where
  pub heads : ℕ → Option ℕ
  pub layout : Layout
  pub holds : IsLaid index heads layout
  pub place : IsPlace (is_live index) at
  pub lies : Lies layout at a
  pub bare : link_at index at ≡ Nothing

-- an index with a place on an address's way
pub record Placed (index : Index) (heads : ℕ → Option ℕ) (a : ℕ) (spot : Spot) : Type 0 where
  pub layout : Layout
  pub holds : IsLaid index heads layout
  pub way : OnWay index layout a spot

-- the address lies under one of the branch's links that leads to no branch, and the place is none of the branch's
pub record IsAbove (index : Index) (a branch : ℕ) (spot : Spot) : Type 0 where
  pub heads : ℕ → Option ℕ
  pub layout : Layout
  pub holds : IsLaid index heads layout
  pub way : OnWay index layout a spot
  pub digit : ℕ
  pub place : IsPlace (is_live index) (Some (branch, digit))
  pub lies : Lies layout (Some (branch, digit)) a
  pub cell : IsCell (link_at index (Some (branch, digit)))
  pub not_below : (other : ℕ) → spot.at ≢ Some (branch, other)

-- only the link at this place changed
pub record Writes (live live' : ℕ → Type 0) (links links' : Option (ℕ × ℕ) → Target) (at : Option (ℕ × ℕ)) (target : Target) : Type 0 where
  pub changed : links' at ≡ target
  pub others : (other : Option (ℕ × ℕ)) → other ≢ at → links' other ≡ links other
  pub kept : (branch : ℕ) → live branch → live' branch
  pub from : (branch : ℕ) → live' branch → live branch
