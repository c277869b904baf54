-- What the fields of the known next hops keep true.
use Rattle.std.specs.Prelude.{◌≡◌, ◌↔◌, ◌⊎◌, ℕ, Bool, true, false, cond, Option, Some, None}
use Rattle.std.specs.Option.{option_map}
use Rattle.std.specs.declared.cmp.Ordering.{Ordering}
use Rattle.std.specs.Ordering.{nat_cmp, ordering_then}
use Rattle.std.specs.BTreeMap.{BTreeMap, is_at}
use Rattle.std.specs.BTreeMap as tree
use Rattle.std.specs.BTreeSet.{BTreeSet}
use Rattle.std.specs.BTreeSet as set
use Rattle.addr4.specs.Prefixes.{AddressPrefix, prefix_cmp}
use Rattle.nexthop_known.specs.Hops.{Hop}
use Rattle.nexthop_known.specs.declared.index.Holding as declared
use Rattle.nexthop_known.specs.Hops.{is_with, came_at, is_stale_at, IsSettledAt}

-- a holding, whatever the family
abbrev pub Holding : Type 0
Holding = declared.Holding AddressPrefix ℕ

-- by subnet, then address
abbrev pub holding_cmp : Holding → Holding → Ordering
holding_cmp p q = ordering_then (prefix_cmp p.subnet q.subnet) (nat_cmp p.hop q.hop)

-- whether the holding is that of the next hop, whose answer came with this subnet
abbrev pub is_own : ℕ → Option AddressPrefix → Holding → Bool
is_own a None k = false
is_own a (Some s) k = is_at (holding_cmp (record { subnet = s; hop = a })) k

-- of the keys that pass the test the set has all if b is true, and else none; of the others it has those that it had
abbrev pub Sets : {K : Type 0} → (K → K → Ordering) → (K → Bool) → Bool → BTreeSet K → BTreeSet K → Type 0
Sets {K} cmp test b old new = (q : K) → set.contains cmp new q ≡ cond (test q) b (set.contains cmp old q)

-- the subnet, unless it is the other one
abbrev pub other_than : AddressPrefix → Option AddressPrefix → Option AddressPrefix
other_than s came = cond (is_with s came) None came

-- the answer of no next hop came with the subnet
abbrev pub IsHeldByNone : BTreeSet Holding → AddressPrefix → Type 0
IsHeldByNone held s = (a : ℕ) → set.contains holding_cmp held (record { subnet = s; hop = a }) ≡ false

module _ {A : Type 0} where
  -- the stale ones are in one set, and the others in another with their subnets
  pub record AreTied (hops : BTreeMap ℕ (Hop A)) (stale : BTreeSet ℕ) (held : BTreeSet Holding) : Type 0 where
    pub stale_is : (a : ℕ) → set.contains nat_cmp stale a ≡ is_stale_at (tree.get nat_cmp hops a)
    pub held_is : (k : Holding) → set.contains holding_cmp held k ≡ is_with k.subnet (came_at (tree.get nat_cmp hops k.hop))

  -- those whose fresh answer differs from the one in force are in a set
  abbrev pub AreTold : BTreeMap ℕ (Hop A) → BTreeSet ℕ → Type 0
  AreTold hops differing = (a : ℕ) → (set.contains nat_cmp differing a ≡ false) ↔ IsSettledAt (tree.get nat_cmp hops a)

  pub record AreIndexed (hops : BTreeMap ℕ (Hop A)) (stale differing : BTreeSet ℕ) (held : BTreeSet Holding) : Type 0 where
    pub tied : AreTied hops stale held
    pub told : AreTold hops differing

  -- the map has this at the address, or nothing, and at the others what it had
  abbrev pub Puts : BTreeMap ℕ (Hop A) → BTreeMap ℕ (Hop A) → ℕ → Option (Hop A) → Type 0
  Puts old new a v = (q : ℕ) → tree.get nat_cmp new q ≡ cond (is_at (nat_cmp a) q) v (tree.get nat_cmp old q)

  -- stale
  abbrev pub let_go : Hop A → Hop A
  let_go h = record { in_force = h.in_force; fresh = h.fresh; came = None }

  abbrev pub Maps : (Hop A → Hop A) → BTreeMap ℕ (Hop A) → BTreeMap ℕ (Hop A) → Type 0
  Maps f old new = (a : ℕ) → tree.get nat_cmp new a ≡ option_map f (tree.get nat_cmp old a)

  abbrev pub PartlyMaps : (Hop A → Hop A) → BTreeMap ℕ (Hop A) → BTreeMap ℕ (Hop A) → Type 0
  PartlyMaps f old new = (a : ℕ) → (tree.get nat_cmp new a ≡ tree.get nat_cmp old a) ⊎ (tree.get nat_cmp new a ≡ option_map f (tree.get nat_cmp old a))

-- the subnet with which an answer came, where no answer of these next hops came with it
abbrev pub IsFreed : BTreeSet Holding → Option AddressPrefix → Option AddressPrefix → Type 0
IsFreed held came None = (came ≡ None) ⊎ ((s : AddressPrefix) × (came ≡ Some s) × (a : ℕ) × (set.contains holding_cmp held (record { subnet = s; hop = a }) ≡ true))
IsFreed held came (Some s) = (came ≡ Some s) × IsHeldByNone held s
