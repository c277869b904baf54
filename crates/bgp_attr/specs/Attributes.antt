-- The attributes of a route, whatever the family of its next hop.
use Rattle.std.specs.Prelude.{ℕ}
use Rattle.bgp_attr.specs.declared.attrs.Attrs as declared

abbrev pub Attrs : Type 0
Attrs = declared.Attrs ℕ
