-- The nodes that a trie lends.
use Rattle.std.specs.Prelude.{◌≡◌, ℕ, List, map, Option, Some, option_map}
use Rattle.std.specs.FinMap.{FinMap}
use Rattle.slab.specs.Slab.{Slab, get}
use Rattle.addr4.specs.Prefixes.{AddressPrefix, prefix_cmp}
use Rattle.nibble_trie.specs.Leaves.{Node}
use Rattle.nibble_trie.specs.Contents.{HasKey}

module _ {V : Type 0} where
  -- a node has this prefix
  pub record HasNode (nodes : Slab (Node V)) (p : AddressPrefix) : Type 0 where
    pub key : ℕ
    pub node : Node V
    pub found : get nodes key ≡ Some node
    pub prefix : node.prefix ≡ p

  -- the prefix at each key
  abbrev pub prefixes_of : Slab (Node V) → List (Option AddressPrefix)
  prefixes_of nodes = map (option_map (λ n. n.prefix)) nodes.slots

module _ {V W : Type 0} where
  -- each key has a node
  abbrev pub HasNodes : Slab (Node V) → FinMap prefix_cmp W → Type 0
  HasNodes nodes rows = (p : AddressPrefix) → HasKey rows p → HasNode nodes p
