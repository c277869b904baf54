-- What the boxes of unrecognized attributes hold.
use Rattle.std.specs.Prelude.{List, [], ◌∷◌}
use Rattle.bgp_attr.specs.declared.unrecognized.Unrecognized.{Unrecognized}
use Rattle.bgp_attr.specs.declared.unrecognized.Items.{Items}
use Rattle.bgp_attr.specs.declared.unrecognized.Items.TheVariants.{None, One, Many}

abbrev pub items_in : Items → List Unrecognized
items_in None = []
items_in (One item) = item.value ∷ []
items_in (Many items) = items.value.items
