-- What goes on below the splitter, whatever the family.
use Rattle.std.specs.Prelude.{ℕ}
use Rattle.addr4.specs.Prefixes.{AddressPrefix}
use Rattle.rib_split.specs.declared.split.Split as declared

abbrev pub Split : Type 0
Split = declared.Split ℕ AddressPrefix
