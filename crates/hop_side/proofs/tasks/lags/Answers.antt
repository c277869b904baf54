use Rattle.nexthop_resolver.specs.Kept.{same_metric}
use Rattle.nexthop_resolver.proofs.AlikeLemmas.{tells_metrics}
use Rattle.hop_side.proofs.tasks.lags.Goals as goal

pub returns : goal.returns
returns g c = c.holds_up.ensures same_metric tells_metrics
