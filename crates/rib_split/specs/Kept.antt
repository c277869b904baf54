-- The table of a link's rows after a change of the link.
use Rattle.std.specs.Prelude.{Option, Some, None}
use Rattle.std.specs.FinMap as map
use Rattle.std.specs.FinMap.{FinMap}
use Rattle.addr4.specs.Prefixes.{AddressPrefix, prefix_cmp}
use Rattle.rib_route.specs.Rows.{External}

-- at its prefix the row after it
abbrev pub kept_after : FinMap prefix_cmp External → AddressPrefix → Option External → FinMap prefix_cmp External
kept_after rows p None = map.remove rows p
kept_after rows p (Some row) = map.insert rows p row
