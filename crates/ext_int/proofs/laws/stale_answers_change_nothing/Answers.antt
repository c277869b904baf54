use Rattle.std.proofs.Common.{ap}
use Rattle.nexthop_resolver.specs.Kept.{external_hop, over}
use Rattle.ext_int.specs.Fibs.{forwarding_table}
use Rattle.ext_int.proofs.laws.stale_answers_change_nothing.Goals as goal

pub returns : goal.returns
returns c int ext s old new stale = ap (forwarding_table int) (c.the_rows_below.ensures.stale external_hop over ext s old new stale)
