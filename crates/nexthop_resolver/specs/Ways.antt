-- How packets leave towards a next hop, whatever the family of its address.
use Rattle.std.specs.Prelude.{ℕ}
use Rattle.nexthop_resolver.specs.declared.rows.Outlet as outlet
use Rattle.nexthop_resolver.specs.declared.rows.Way as way

abbrev pub Outlet : Type 0
Outlet = outlet.Outlet ℕ

abbrev pub Way : Type 0
Way = way.Way ℕ
