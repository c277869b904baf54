use Rattle.std.proofs.Common.{ap, ◌∙◌}
use Rattle.link_change.specs.Rows.{no_rows}
use Rattle.nexthop_resolver.specs.Kept.{external_hop, over}
use Rattle.ext_int.specs.Fibs.{forwarding_table}
use Rattle.ext_int.proofs.FibLemmas.{empty_table}
use Rattle.ext_int.proofs.laws.no_rows_at_first.Goals as goal

pub returns : goal.returns
returns c = ap (forwarding_table no_rows) (c.the_rows_below.ensures.first external_hop over 0) ∙ empty_table
