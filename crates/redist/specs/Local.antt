-- The routes of this speaker's own, which redistribution makes of interior ones (RFC 4271, sections 5.1 and 9.4).
use Rattle.std.specs.Prelude.{ℕ, Bool, false, if◌then◌else◌, [], Option, Some, None}
use Rattle.addr4.specs.Prefixes.{AddressPrefix}
use Rattle.bgp_attr.specs.Attributes.{Attrs}
use Rattle.bgp_attr.specs.declared.attrs.Origin.TheVariants.{Incomplete}
use Rattle.bgp_attr.specs.Routes.{Route}
use Rattle.bgp_attr.specs.Reflections.{not_reflected}
use Rattle.bgp_attr.specs.Speakers.{Speaker}
use Rattle.rib_route.specs.Rows.{Interior}
use Rattle.redist.specs.declared.protos.Protos.{Protos}
use Rattle.redist.specs.Protocols.{has}

-- incomplete origin, since the route came by other means; an empty path; and the speaker's address as the next hop (sections
-- 5.1.1 to 5.1.3)
abbrev pub local_attrs : ℕ → Attrs
local_attrs addr = record {
  origin = Incomplete;
  path = [];
  next_hop = addr;
  med = None;
  local_pref = None;
  atomic = false;
  aggregator = None;
  reflection = not_reflected;
  unrecognized = [];
}

-- the route with such attributes: from no peer, with preference 100, and the next hop is at no distance
abbrev pub of_own : Attrs → Route
of_own attrs = record {
  attrs = attrs;
  pref = 100;
  med = None;
  prepend = 0;
  igp = Some 0;
  from = None;
}

abbrev pub local_route : Speaker → Route
local_route me = of_own (local_attrs me.addr)

-- there is a row, and its protocol is one of these
abbrev pub is_on : Protos → Option Interior → Bool
is_on on None = false
is_on on (Some row) = has on row.proto

-- what is made of the interior row at a prefix, where these protocols are redistributed
abbrev pub redistributed : Speaker → Protos → AddressPrefix → Option Interior → Option Route
redistributed me on p row = if is_on on row then Some (local_route me) else None
