use Rattle.nibble_trie.proofs.Ways.{holds_empty, none_live}
use Rattle.nibble_trie.proofs.index.Index.new.Goals as goal

pub returns : goal.returns
returns c = record { layout = record { level = λ _. 0; block = λ _. 0 }; holds = holds_empty (record { root = c.nothing.result; branches = c.new.result }) (record { level = λ _. 0; block = λ _. 0 }) c.nothing.ensures (none_live c.new.result c.new.ensures.empty) }
