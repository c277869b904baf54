use Rattle.std.proofs.Common.{◌-◌, sym, ap, arith}
use Rattle.nibble_trie.specs.Links.{leaf_of}
use Rattle.nibble_trie.proofs.Words.{word_nothing, word_leaf, word_inner}
use Rattle.nibble_trie.proofs.link.Link.key.Goals as goal

pub returns-then-self-eq0-clause-value : goal.returns-then-self-eq0-clause-value
returns-then-self-eq0-clause-value c = sym (ap leaf_of (word_nothing c.args.self.word (omega arith)))

pub returns-then-self-lt2147483648-clause-value : goal.returns-then-self-lt2147483648-clause-value
returns-then-self-lt2147483648-clause-value c = sym (ap leaf_of (word_leaf c.args.self.word (c.args.self.word - 1) (omega arith) (omega arith)))

pub returns-clause-value : goal.returns-clause-value
returns-clause-value c = sym (ap leaf_of (word_inner c.args.self.word (c.args.self.word - 2147483648) (omega arith)))
