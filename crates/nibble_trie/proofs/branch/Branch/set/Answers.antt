use Rattle.std.proofs.Common.{refl, arith}
use Rattle.nibble_trie.proofs.Words.{target_set}
use Rattle.nibble_trie.proofs.branch.Branch.set.Goals as goal

pub returns : goal.returns
returns c = target_set c.args.self.now _ c.args.digit c.args.link (omega arith) refl
