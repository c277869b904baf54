use Rattle.std.proofs.Common.{◌≤◌}
use Rattle.std.specs.FinMap as map
use Rattle.register_interest.specs.Width.{width}
use Rattle.register_interest.specs.Search.{rows_in}
use Rattle.register_interest.proofs.DescentLemmas.{IsDescent}
use Rattle.register_interest.proofs.search.longest_row.Given as goal

abbrev pub invariant-rows : goal.invariant-rows
invariant-rows g l = IsDescent width (map.get (rows_in l.rows)) l.address l.length × (l.length ≤ g.F.Family.WIDTH)

abbrev pub decreases-rows : goal.decreases-rows
decreases-rows g l = l.length
