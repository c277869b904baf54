-- What is kept of the longest interior route that holds a next hop, and what rows go on as by it.
use Rattle.std.specs.Prelude.{ℕ, ◌==◌, ◌&&◌, Bool, Option, Some, None}
use Rattle.std.specs.Option.{option_eq}
use Rattle.std.specs.Str.{bytes_eq}
use Rattle.addr4.specs.Prefixes.{AddressPrefix}
use Rattle.bgp_attr.specs.Routes.{Route}
use Rattle.rib_route.specs.Distances.{external_proto}
use Rattle.rib_route.specs.Rows.{Interior}
use Rattle.rib_route.specs.Rows.{External}
use Rattle.rib_route.specs.Rows.{FibRow}
use Rattle.nexthop_resolver.specs.declared.rows.Metric.{Metric}
use Rattle.nexthop_resolver.specs.Ways.{Outlet, Way}

-- ---- a peer's route (RFC 4271, section 9.1.2.2 e: the interior cost to its next hop)
abbrev pub route_hop : Route → ℕ
route_hop r = r.attrs.next_hop

-- the metric of the interior route
abbrev pub metric_of : Option (AddressPrefix × Interior) → Metric
metric_of None = record { igp = None }
metric_of (Some m) = record { igp = Some m.1.metric }

abbrev pub with_igp : Route → Option ℕ → Option Route
with_igp r None = None
with_igp r (Some metric) = Some (record r { igp = Some metric })

-- the route with the metric; without one it isn't resolvable (section 9.1.2.1)
abbrev pub with_metric : Route → Metric → Option Route
with_metric r m = with_igp r m.igp

-- whether two are the same
abbrev pub same_metric : Metric → Metric → Bool
same_metric x y = option_eq ◌==◌ x.igp y.igp

-- ---- an external route, as what packets are forwarded by
abbrev pub external_hop : External → ℕ
external_hop r = r.next_hop

-- the interface of the interior route, and its gateway if it has one
abbrev pub way_of : Option (AddressPrefix × Interior) → Way
way_of None = record { outlet = None }
way_of (Some m) = record { outlet = Some (record { gateway = m.1.gateway; iface = m.1.iface }) }

-- packets go to the gateway, or to the next hop itself where that is reached directly
abbrev pub first_router : Option ℕ → ℕ → ℕ
first_router None hop = hop
first_router (Some gateway) hop = gateway

abbrev pub over_outlet : External → Option Outlet → Option FibRow
over_outlet r None = None
over_outlet r (Some o) = Some (record { proto = external_proto r; gateway = Some (first_router o.gateway r.next_hop); iface = o.iface })

abbrev pub over : External → Way → Option FibRow
over r w = over_outlet r w.outlet

-- whether two are the same
abbrev pub same_outlet : Outlet → Outlet → Bool
same_outlet x y = option_eq ◌==◌ x.gateway y.gateway && bytes_eq x.iface y.iface

abbrev pub same_way : Way → Way → Bool
same_way x y = option_eq same_outlet x.outlet y.outlet
