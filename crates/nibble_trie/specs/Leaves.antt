-- A leaf, whatever the family.
use Rattle.addr4.specs.Prefixes.{AddressPrefix}
use Rattle.nibble_trie.specs.declared.node.Node as declared

abbrev pub Node : Type 0 → Type 0
Node V = declared.Node V AddressPrefix
