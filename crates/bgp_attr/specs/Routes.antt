-- A route behind the incoming filter, whatever the family.
use Rattle.bgp_attr.specs.declared.route.Route as declared
use Rattle.bgp_attr.specs.Attributes.{Attrs}

abbrev pub Route : Type 0
Route = declared.Route Attrs
