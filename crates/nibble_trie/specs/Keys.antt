-- The keys of leaves, and the order in which those of one address are linked.
use Rattle.std.specs.Prelude.{◌≡◌, ℕ, ◌+◌, ◌-◌, ◌<◌, ◌≤◌, ◌^◌, Option, Some, None, option_map, option_and_then}
use Rattle.slab.specs.Slab.{Slab, get}
use Rattle.addr4.specs.Places.{IsBeyond}
use Rattle.addr4.specs.Prefixes.{AddressPrefix, ComesBefore}
use Rattle.nibble_trie.specs.Leaves.{Node}
use Rattle.nibble_trie.specs.Links.{leads, leaf_of}

module _ {V : Type 0} where
  -- the prefix of the leaf at a key
  abbrev pub prefix_in : Slab (Node V) → ℕ → Option AddressPrefix
  prefix_in leaves key = option_map (λ n. n.prefix) (get leaves key)

  -- where its link leads
  abbrev pub longer_in : Slab (Node V) → ℕ → Option ℕ
  longer_in leaves key = option_and_then (λ n. leaf_of (leads n.longer)) (get leaves key)

-- the first leaf of an address from a length on
abbrev pub IsNextOf : (ℕ → Option AddressPrefix) → ℕ → ℕ → Option ℕ → Type 0
IsNextOf keys a from None = (k : ℕ) (p : AddressPrefix) → keys k ≡ Some p → p.address ≡ a → p.length < from
IsNextOf keys a from (Some key) = (q : AddressPrefix) × (keys key ≡ Some q) × (q.address ≡ a) × (from ≤ q.length) × ((k : ℕ) (p : AddressPrefix) → keys k ≡ Some p → p.address ≡ a → from ≤ p.length → q.length ≤ p.length)

-- each leaf leads to the next longer one of its address, and no prefix has two
pub record IsChained (keys : ℕ → Option AddressPrefix) (longer : ℕ → Option ℕ) : Type 0 where
  pub linked : (k : ℕ) (p : AddressPrefix) → keys k ≡ Some p → IsNextOf keys p.address (p.length + 1) (longer k)
  pub single : (k l : ℕ) (p : AddressPrefix) → keys k ≡ Some p → keys l ≡ Some p → k ≡ l

-- some address and length that a link is the next of
pub record HasNext (keys : ℕ → Option AddressPrefix) (link : Option ℕ) (length : ℕ) : Type 0 where
  pub address : ℕ
  pub from : ℕ
  pub within : from ≤ length
  pub next : IsNextOf keys address from link

-- the last leaf of an address below a length
pub record IsLastBelow (keys : ℕ → Option AddressPrefix) (longer : ℕ → Option ℕ) (a length key : ℕ) : Type 0 where
  pub prefix : AddressPrefix
  pub found : keys key ≡ Some prefix
  pub same : prefix.address ≡ a
  pub shorter : prefix.length < length
  pub next : IsNextOf keys a length (longer key)

-- the first leaf of a prefix's address, from its length on as well
abbrev pub IsHeadOf : (ℕ → Option AddressPrefix) → AddressPrefix → Option ℕ → Type 0
IsHeadOf keys p head = IsNextOf keys p.address 0 head × IsNextOf keys p.address p.length head

-- addresses are numbers of 128 bits
abbrev pub IsSmall : (ℕ → Option AddressPrefix) → Type 0
IsSmall keys = (k : ℕ) (p : AddressPrefix) → keys k ≡ Some p → (p.address < 2 ^ 128) × (p.length ≤ 128)

-- the leaf of a prefix
abbrev pub IsLeafOf : (ℕ → Option AddressPrefix) → AddressPrefix → Option ℕ → Type 0
IsLeafOf keys p None = (k : ℕ) → keys k ≡ Some p → ⊥
IsLeafOf keys p (Some key) = keys key ≡ Some p

-- the leaf of the first key, of those that are P
abbrev pub IsFirstOf : (ℕ → Option AddressPrefix) → (AddressPrefix → Type 0) → Option ℕ → Type 0
IsFirstOf keys P None = (k : ℕ) (p : AddressPrefix) → keys k ≡ Some p → P p → ⊥
IsFirstOf keys P (Some key) = (q : AddressPrefix) × (keys key ≡ Some q) × P q × ((k : ℕ) (p : AddressPrefix) → keys k ≡ Some p → P p → ComesBefore p q → ⊥)

-- the leaf of the first key beyond a place
abbrev pub IsNextLeaf : (ℕ → Option AddressPrefix) → Option AddressPrefix → Option ℕ → Type 0
IsNextLeaf keys after = IsFirstOf keys (IsBeyond after)

-- of this address and at least so long, or behind it
abbrev pub IsFrom : ℕ → ℕ → AddressPrefix → Type 0
IsFrom from least p = (from ≤ p.address) × (p.address ≡ from → least ≤ p.length)

-- the same of one address
abbrev pub IsOfAddressFrom : ℕ → ℕ → ℕ → AddressPrefix → Type 0
IsOfAddressFrom a from least p = (p.address ≡ a) × IsFrom from least p

-- how much longer prefixes may come behind a link
abbrev pub rest_of : Option AddressPrefix → ℕ
rest_of None = 0
rest_of (Some p) = 129 - p.length

abbrev pub rest_behind : (ℕ → Option AddressPrefix) → Option ℕ → ℕ
rest_behind keys None = 0
rest_behind keys (Some key) = rest_of (keys key)
