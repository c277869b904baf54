-- What packets are forwarded by.
use Rattle.rib_route.specs.Rows.{Interior}
use Rattle.rib_route.specs.Rows.{FibRow}
use Rattle.rib_route.specs.Distances.{fib_proto}

-- the row that an interior route is forwarded by: its metric doesn't count
abbrev pub fib_row : Interior → FibRow
fib_row r = record { proto = fib_proto r.proto; gateway = r.gateway; iface = r.iface }
