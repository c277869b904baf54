use Rattle.std.proofs.Common.{◌+◌, ◌*◌}
use Rattle.nibble_trie.specs.Keys.{prefix_in}
use Rattle.nibble_trie.proofs.Searches.{IsLeft}
use Rattle.nibble_trie.proofs.reading.+next.Given as goal

abbrev pub decreases-first_at : goal.decreases-first_at
decreases-first_at g l = l.level * 2 + 1

abbrev pub decreases-first_in : goal.decreases-first_in
decreases-first_in g l = l.level * 2

abbrev pub invariant-first_in-digits : goal.invariant-first_in-digits
invariant-first_in-digits g l = IsLeft (prefix_in l.leaves) l.index l.branch l.level l.fn.from l.fn.least l.digit l.from l.least
