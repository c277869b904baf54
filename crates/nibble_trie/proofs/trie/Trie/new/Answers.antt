use Rattle.nibble_trie.proofs.Wholes.{whole_empty, rows_empty}
use Rattle.nibble_trie.proofs.trie.Trie.new.Goals as goal

pub invariant_of-result : goal.invariant_of-result
invariant_of-result g c = whole_empty c.new.result c.new-2.result c.new.ensures.empty c.new-2.ensures

pub returns : goal.returns
returns g c = rows_empty c.new.result c.new.ensures.empty
