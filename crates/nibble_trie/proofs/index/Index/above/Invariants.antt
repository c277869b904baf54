use Rattle.std.proofs.Common.{ℕ, Option}
use Rattle.nibble_trie.specs.Index.{Layout, IsLaid, OnWay, IsAbove}
use Rattle.nibble_trie.proofs.index.Index.above.Given as goal

abbrev pub invariant-way : goal.invariant-way
invariant-way g l = record {
  above : IsAbove l.self l.fn.address l.fn.branch l.spot;
  way : (heads : ℕ → Option ℕ) (layout : Layout) → IsLaid l.self heads layout → OnWay l.self layout l.fn.address l.fn.spot → OnWay l.self layout l.fn.address l.spot;
}

abbrev pub decreases-way : goal.decreases-way
decreases-way g l = l.spot.level
