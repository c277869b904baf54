use Rattle.nexthop_resolver.proofs.AlikeLemmas.{tells_metrics, tells_ways}
use Rattle.nexthop_resolver.proofs.laws.answers_are_told.Goals as goal

pub returns : goal.returns
returns c = record { metrics = tells_metrics; ways = tells_ways }
