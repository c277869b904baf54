use Rattle.nibble_trie.proofs.index.Index.+put.Given as goal

abbrev pub decreases-put : goal.decreases-put
decreases-put g l = l.spot.level
