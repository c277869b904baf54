use Rattle.std.proofs.Common.{sym, ◌∙◌}
use Rattle.nibble_trie.proofs.Words.{target_read}
use Rattle.nibble_trie.proofs.branch.Branch.target.Goals as goal

pub returns : goal.returns
returns c = c.target.ensures ∙ sym (target_read c.args.self.now c.args.digit)
