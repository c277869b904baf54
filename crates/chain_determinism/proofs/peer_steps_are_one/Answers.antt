use Rattle.chain_determinism.proofs.PeerLemmas as peers
use Rattle.chain_determinism.proofs.peer_steps_are_one.Goals as goal

pub returns-clause-feed : goal.returns-clause-feed
returns-clause-feed c = peers.feed_is_one

pub returns-clause-turn : goal.returns-clause-turn
returns-clause-turn c = peers.turn_is_one

pub returns-clause-work : goal.returns-clause-work
returns-clause-work c = peers.turns_have_work

pub returns-clause-weld : goal.returns-clause-weld
returns-clause-weld c = peers.weld_is_one

pub returns-clause-loss : goal.returns-clause-loss
returns-clause-loss c = peers.loss_is_one

pub returns-clause-edit : goal.returns-clause-edit
returns-clause-edit c = peers.edit_is_one
