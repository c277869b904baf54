use Rattle.std.proofs.Common.{◌-◌, ◌≤◌}
use Rattle.std.specs.FinMap as map
use Rattle.register_interest.specs.Width.{width}
use Rattle.register_interest.specs.Search.{rows_in}
use Rattle.register_interest.proofs.SearchLemmas.{IsHalved}
use Rattle.register_interest.proofs.search.largest_subnet.Given as goal

abbrev pub invariant-lengths : goal.invariant-lengths
invariant-lengths g l = IsHalved width (map.get (rows_in l.rows)) l.address l.found l.low l.high × (l.high ≤ g.F.Family.WIDTH)

abbrev pub decreases-lengths : goal.decreases-lengths
decreases-lengths g l = l.high - l.low
