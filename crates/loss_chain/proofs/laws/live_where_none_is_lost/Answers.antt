use Rattle.std.proofs.Common.{refl}
use Rattle.loss_chain.proofs.HeldLemmas as held
use Rattle.loss_chain.proofs.laws.live_where_none_is_lost.Goals as goal

pub returns-clause-live : goal.returns-clause-live
returns-clause-live g c = held.live_where_none_is_lost

pub returns-clause-none : goal.returns-clause-none
returns-clause-none g c = λ a. refl
