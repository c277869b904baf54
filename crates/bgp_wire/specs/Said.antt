-- What an UPDATE says of one family's prefixes.
use Rattle.std.specs.Prelude.{List, [], Option, None}
use Rattle.addr4.specs.Prefixes.{AddressPrefix}
use Rattle.bgp_attr.specs.Attributes.{Attrs}

-- those that are withdrawn, those that are announced, and the attributes of these
pub record Said : Type 0 where
  pub withdrawn : List AddressPrefix
  pub announced : List AddressPrefix
  pub attrs : Option Attrs

abbrev pub nothing_said : Said
nothing_said = record { withdrawn = []; announced = []; attrs = None }
