use Rattle.std.proofs.Common.{refl, arith}
use Rattle.nibble_trie.proofs.Words.{target_one}
use Rattle.nibble_trie.proofs.branch.Branch.with_one.Goals as goal

pub returns : goal.returns
returns c = target_one _ c.args.digit c.nothing-links.result c.args.link (omega arith) c.nothing-links.ensures refl
