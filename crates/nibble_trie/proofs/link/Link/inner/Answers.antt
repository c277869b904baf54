use Rattle.std.proofs.Common.{refl}
use Rattle.nibble_trie.proofs.Words.{word_inner}
use Rattle.nibble_trie.proofs.link.Link.inner.Goals as goal

pub returns : goal.returns
returns c = word_inner _ c.args.key refl
