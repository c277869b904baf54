use Rattle.replay.proofs.Captures.{captures_accepted}
use Rattle.replay.proofs.laws.captures_are_accepted.Goals as goal

pub returns : goal.returns
returns c = captures_accepted c.lines_of_ipv4_stay.ensures.read c.lines_of_ipv4_stay.ensures.admitted c.lines_are_accepted.ensures c.lines_are_few.ensures
