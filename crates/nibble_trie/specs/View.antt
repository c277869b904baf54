-- What the fields of a trie mean.
use Rattle.std.specs.Prelude.{◌≡◌, ◌⊎◌, ℕ, List, [], ◌∷◌, Option, Some, None}
use Rattle.std.specs.FinMap.{FinMap, from_entries, insert, remove}
use Rattle.slab.specs.Slab.{Slab}
use Rattle.addr4.specs.Prefixes.{AddressPrefix, prefix_cmp}
use Rattle.nibble_trie.specs.Leaves.{Node}
use Rattle.nibble_trie.specs.declared.index.Index.{Index}
use Rattle.nibble_trie.specs.declared.index.End.{End}
use Rattle.nibble_trie.specs.declared.reading.Gap.{Gap}
use Rattle.nibble_trie.specs.declared.reading.Gap.TheVariants.{Behind, First}
use Rattle.nibble_trie.specs.Links.{leads, IsCell}
use Rattle.nibble_trie.specs.Keys.{prefix_in, longer_in, IsNextOf, IsChained, IsSmall, IsLastBelow, IsHeadOf}
use Rattle.nibble_trie.specs.Index.{Indexes, IsSpotOf, spot_at}

module _ {V : Type 0} where
  -- the entries of these leaves
  abbrev pub listing : List (Option (Node V)) → List (AddressPrefix × V)
  listing [] = []
  listing (None ∷ rest) = listing rest
  listing (Some n ∷ rest) = (n.prefix, n.value) ∷ listing rest

  abbrev pub rows_of : Slab (Node V) → FinMap prefix_cmp V
  rows_of leaves = from_entries (listing leaves.slots)

  -- the index leads each address to its shortest key, and that to the next
  pub record IsWhole (leaves : Slab (Node V)) (index : Index) : Type 0 where
    pub heads : ℕ → Option ℕ
    pub indexes : Indexes index heads
    pub shortest : (a : ℕ) → IsNextOf (prefix_in leaves) a 0 (heads a)
    pub chained : IsChained (prefix_in leaves) (longer_in leaves)
    pub small : IsSmall (prefix_in leaves)

  -- the way of a prefix's address ends here, and this is the first leaf of that address: none is shorter than the prefix
  pub record IsWayEnd (leaves : Slab (Node V)) (index : Index) (p : AddressPrefix) (end : End) (head : Option ℕ) : Type 0 where
    pub way : IsSpotOf index p.address (spot_at end p.address)
    pub cell : IsCell (leads end.link)
    pub first : IsHeadOf (prefix_in leaves) p head

  -- where a new leaf of a prefix is put: behind the last one below it, or before the first one of its address
  abbrev pub IsGapOf : Slab (Node V) → Index → AddressPrefix → Gap → Type 0
  IsGapOf leaves index p (Behind before) = IsLastBelow (prefix_in leaves) (longer_in leaves) p.address p.length before
  IsGapOf leaves index p (First end head) = IsWayEnd leaves index p end head

  -- rows with another value, or none, at a prefix
  abbrev pub with_value : FinMap prefix_cmp V → AddressPrefix → Option V → FinMap prefix_cmp V
  with_value rows p None = remove rows p
  with_value rows p (Some v) = insert rows p v

  -- another value, or none, stands at a prefix, and the first leaf of each address is the same
  pub record Joins (old new : Slab (Node V)) (p : AddressPrefix) (value : Option V) : Type 0 where
    pub chained : IsChained (prefix_in new) (longer_in new)
    pub heads : (a : ℕ) (head : Option ℕ) → IsNextOf (prefix_in old) a 0 head → IsNextOf (prefix_in new) a 0 head
    pub keys : (k : ℕ) (q : AddressPrefix) → prefix_in new k ≡ Some q → (q ≡ p) ⊎ (prefix_in old k ≡ Some q)
    pub rows : rows_of new ≡ with_value (rows_of old) p value
