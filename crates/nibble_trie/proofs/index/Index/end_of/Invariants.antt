use Rattle.nibble_trie.specs.Index.{IsSpotOf, spot_at}
use Rattle.nibble_trie.proofs.index.Index.end_of.Given as goal

abbrev pub invariant-way : goal.invariant-way
invariant-way g l = IsSpotOf l.self l.fn.address (spot_at l.end l.fn.address)

abbrev pub decreases-way : goal.decreases-way
decreases-way g l = l.end.level
