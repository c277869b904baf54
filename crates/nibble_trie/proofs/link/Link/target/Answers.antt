use Rattle.std.proofs.Common.{◌-◌, sym, arith}
use Rattle.nibble_trie.proofs.Words.{word_nothing, word_leaf, word_inner}
use Rattle.nibble_trie.proofs.link.Link.target.Goals as goal

pub returns-then-self-eq0 : goal.returns-then-self-eq0
returns-then-self-eq0 c = sym (word_nothing c.args.self.word (omega arith))

pub returns-then-self-lt2147483648 : goal.returns-then-self-lt2147483648
returns-then-self-lt2147483648 c = sym (word_leaf c.args.self.word (c.args.self.word - 1) (omega arith) (omega arith))

pub returns : goal.returns
returns c = sym (word_inner c.args.self.word (c.args.self.word - 2147483648) (omega arith))
