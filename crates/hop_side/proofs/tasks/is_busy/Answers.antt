use Rattle.nexthop_resolver.specs.Kept.{same_metric}
use Rattle.nexthop_resolver.proofs.AlikeLemmas.{tells_metrics}
use Rattle.nexthop_resolver.proofs.LeftLemmas.{busy_is}
use Rattle.hop_side.proofs.tasks.is_busy.Goals as goal

pub returns : goal.returns
returns g c = busy_is same_metric c.busy.result c.args.resolver.now tells_metrics c.busy.ensures
