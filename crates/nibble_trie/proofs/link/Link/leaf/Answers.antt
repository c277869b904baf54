use Rattle.std.proofs.Common.{refl, arith}
use Rattle.nibble_trie.proofs.Words.{word_leaf}
use Rattle.nibble_trie.proofs.link.Link.leaf.Goals as goal

pub returns : goal.returns
returns c = word_leaf _ c.args.key refl (omega arith)
