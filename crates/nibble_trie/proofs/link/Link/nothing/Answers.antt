use Rattle.std.proofs.Common.{refl}
use Rattle.nibble_trie.proofs.Words.{word_nothing}
use Rattle.nibble_trie.proofs.link.Link.nothing.Goals as goal

pub returns : goal.returns
returns c = word_nothing 0 refl
