use Rattle.std.proofs.Common.{ap}
use Rattle.exit_side.specs.Tasks.{first_refreshing}
use Rattle.exit_side.proofs.refreshes.first_refreshing.Goals as goal

pub loop-number-init : goal.loop-number-init
loop-number-init g c = ap first_refreshing c.into_iter-number-iterator.ensures.into_iter_gives.0
