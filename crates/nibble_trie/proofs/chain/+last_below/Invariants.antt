use Rattle.nibble_trie.specs.Keys.{prefix_in, rest_of}
use Rattle.nibble_trie.proofs.chain.+last_below.Given as goal

abbrev pub decreases-last_below : goal.decreases-last_below
decreases-last_below g l = rest_of (prefix_in l.leaves.now l.key)
