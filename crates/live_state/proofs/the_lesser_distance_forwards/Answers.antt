use Rattle.live_state.proofs.ForwardingLemmas.{lesser_forwards, each_forwards}
use Rattle.live_state.proofs.the_lesser_distance_forwards.Goals as goal

pub returns-clause-least : goal.returns-clause-least
returns-clause-least c = lesser_forwards

pub returns-clause-each : goal.returns-clause-each
returns-clause-each c = each_forwards
