use Rattle.pass_core.proofs.LeftLemmas.{walk_is_spent, left_is_bounded, left_while_on, left_follows}
use Rattle.pass_core.proofs.laws.a_walk_ends.Goals as goal

pub returns : goal.returns
returns g c = record { spent = walk_is_spent; bounded = left_is_bounded; on = left_while_on; follows = left_follows }
