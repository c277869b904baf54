-- Interior rows as what packets are forwarded by.
use Rattle.std.specs.Prelude.{Option, Some, option_map}
use Rattle.addr4.specs.Prefixes.{AddressPrefix}
use Rattle.rib_route.specs.Rows.{Interior}
use Rattle.rib_route.specs.Rows.{FibRow}
use Rattle.rib_route.specs.Forwarding.{fib_row}
use Rattle.link_change.specs.Rows.{Rows}
use Rattle.link_change.specs.Changes.{IsSent}
use Rattle.link_change.specs.Changes.{Change}

abbrev pub forwarded : Rows Interior → Rows FibRow
forwarded rows q = option_map fib_row (rows q)

-- where the change that comes in leads from interior rows to new ones, what goes out leads from the forwarding rows to the
-- new ones there; nothing goes out where they stay the same
abbrev pub ForwardsOn : Change Interior → Option (Change FibRow) → Type 0
ForwardsOn change result =
    (old new : Rows Interior) (p : AddressPrefix) → IsSent old new p (Some change) → IsSent (forwarded old) (forwarded new) p result
