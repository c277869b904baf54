use Rattle.nibble_trie.proofs.Words.{word_nothing, nothing_word}
use Rattle.nibble_trie.proofs.link.Link.number.Goals as goal

pub returns-clause-nothing : goal.returns-clause-nothing
returns-clause-nothing c = (word_nothing c.args.self.word, nothing_word c.args.self.word)
