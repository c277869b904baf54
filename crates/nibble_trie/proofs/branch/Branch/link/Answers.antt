use Rattle.std.proofs.Common.{sym}
use Rattle.nibble_trie.proofs.Words.{target_read}
use Rattle.nibble_trie.proofs.branch.Branch.link.Goals as goal

pub returns : goal.returns
returns c = sym (target_read c.args.self.now c.args.digit)
