use Rattle.nibble_trie.specs.Keys.{prefix_in, rest_behind}
use Rattle.nibble_trie.proofs.chain.+seek.Given as goal

abbrev pub decreases-seek : goal.decreases-seek
decreases-seek g l = rest_behind (prefix_in l.leaves.now) l.link
