use Rattle.nexthop_known.proofs.AgreeLemmas.{nothing_agrees, answered_agrees, early_agrees, early_is_given_up, forgotten_agrees, settled_agrees}
use Rattle.nexthop_known.proofs.laws.answers_agree.Goals as goal

pub returns : goal.returns
returns g c = record { nothing = nothing_agrees; answered = answered_agrees; early = early_agrees; given_up = early_is_given_up; forgotten = forgotten_agrees; settled = settled_agrees }
