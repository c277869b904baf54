-- The RIB's exit, whatever the family.
use Rattle.nexthop_resolver.specs.Ways.{Way}
use Rattle.nexthop_resolver.specs.Resolving.{Resolving}
use Rattle.rib_exit.specs.declared.exit.RibExit as declared

abbrev pub RibExit : Type 0
RibExit = declared.RibExit (Resolving Way)
