use Rattle.rib_tree.proofs.OwnLemmas.{new_is_branch}
use Rattle.rib_tree.proofs.branch.Branch.new.Goals as goal

pub returns-clause-chain : goal.returns-clause-chain
returns-clause-chain g c = rw c.new.ensures (new_is_branch c.args.proto)
