use Rattle.nexthop_resolver.proofs.TurnLemmas.{turn_leads}
use Rattle.nexthop_resolver.proofs.laws.a_turn_leads.Goals as goal

pub returns : goal.returns
returns g c = λ hop made candidates upper kept was is old new turn t. turn_leads hop made candidates upper kept was is old new turn t
