use Rattle.chain_determinism.proofs.TreeLemmas as tree
use Rattle.chain_determinism.proofs.route_falls_are_one.Goals as goal

pub returns-clause-route : goal.returns-clause-route
returns-clause-route c = tree.route_fall_is_one

pub returns-clause-loss : goal.returns-clause-loss
returns-clause-loss c = tree.loss_fall_is_one
