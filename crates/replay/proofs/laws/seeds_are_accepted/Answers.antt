use Rattle.replay.proofs.Seeds.{accepted}
use Rattle.replay.proofs.laws.seeds_are_accepted.Goals as goal

pub returns : goal.returns
returns c = accepted c.lines_of_ipv4_stay.ensures.read c.lines_of_ipv4_stay.ensures.admitted c.lines_are_read.ensures
