use Rattle.slab.specs.Slab.{slab_len}
use Rattle.nibble_trie.proofs.index.Index.+prune.Given as goal

abbrev pub decreases-prune : goal.decreases-prune
decreases-prune g l = slab_len l.self.now.branches
