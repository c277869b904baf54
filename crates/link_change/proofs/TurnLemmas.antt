-- What a turn makes of the last link's rows, from what it sent.
use Rattle.std.proofs.Common.{Option, Some, None, refl}
use Rattle.addr4.specs.Prefixes.{AddressPrefix}
use Rattle.link_change.specs.Rows.{Rows}
use Rattle.link_change.specs.Changes.{IsSent}
use Rattle.link_change.specs.Turns.{IsTurned, taken_turn}
use Rattle.link_change.specs.Changes.{Change}

pub turned_by : {R : Type 0} (old new : Rows R) (p : AddressPrefix) (sent : Option (Change R)) → IsSent old new p sent → IsTurned old new (taken_turn sent)
turned_by old new p None is = is
turned_by old new p (Some change) is = (refl, is.1, is.2)
