use Rattle.out_chain.proofs.LawLemmas.{exact_unless_held_up, none_held_up_without_work}
use Rattle.out_chain.proofs.laws.unless_held_up_all_is_sent.Goals as goal

pub returns-clause-exact : goal.returns-clause-exact
returns-clause-exact c = exact_unless_held_up

pub returns-clause-idle : goal.returns-clause-idle
returns-clause-idle c = none_held_up_without_work
