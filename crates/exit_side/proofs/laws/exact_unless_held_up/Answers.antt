use Rattle.exit_side.proofs.LawLemmas as laws
use Rattle.exit_side.proofs.laws.exact_unless_held_up.Goals as goal

pub returns-clause-exact : goal.returns-clause-exact
returns-clause-exact c = laws.exact_unless_held_up c.unless_held_up_all_is_sent.ensures.exact

pub returns-clause-idle : goal.returns-clause-idle
returns-clause-idle c = laws.none_held_up c.unless_held_up_all_is_sent.ensures.idle

pub returns-clause-listed : goal.returns-clause-listed
returns-clause-listed c = laws.work_is_listed
