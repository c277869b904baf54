use Rattle.live_state.proofs.DecidedLemmas.{the_least, each_counts}
use Rattle.live_state.proofs.the_least_distance_is_decided.Goals as goal

pub returns-clause-least : goal.returns-clause-least
returns-clause-least c = the_least

pub returns-clause-each : goal.returns-clause-each
returns-clause-each c = each_counts
