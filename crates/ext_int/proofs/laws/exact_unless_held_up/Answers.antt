use Rattle.std.proofs.Common.{ap, option_map, ◌∙◌}
use Rattle.rib_route.specs.Forwarding.{fib_row}
use Rattle.rib_merge.specs.Merging.{row_of_both}
use Rattle.nexthop_resolver.specs.Kept.{external_hop, over, way_of}
use Rattle.ext_int.specs.Fibs.{fib_distance}
use Rattle.ext_int.proofs.FibLemmas.{resolved_at}
use Rattle.ext_int.proofs.laws.exact_unless_held_up.Goals as goal

pub returns : goal.returns
returns c alike tells int ext r s q agrees named counted none =
    ap (row_of_both fib_distance (option_map fib_row (int q))) (c.exact_unless_held_up.ensures.exact alike tells external_hop over way_of ext r s q agrees named counted none ∙ resolved_at r (ext q))
