use Rattle.wire_laws.proofs.SaidAgain.{nothing_of_ipv6}
use Rattle.wire_laws.proofs.nothing_is_said_of_ipv6_where_it_is_not_spoken.Goals as goal

pub returns : goal.returns
returns c = nothing_of_ipv6
