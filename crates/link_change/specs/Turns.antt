-- What a turn makes of the map of the last link.
use Rattle.std.specs.Prelude.{◌≡◌, Option, Some, None}
use Rattle.link_change.specs.Rows.{Rows}
use Rattle.link_change.specs.Changes.{Change, IsSent}
use Rattle.link_change.specs.declared.turn.Turn as declared
use Rattle.addr4.specs.Prefixes.{AddressPrefix}
use Rattle.link_change.specs.declared.turn.Turn.TheVariants.{Nothing, Quiet, Sent}

-- a turn, whatever the family
abbrev pub Turn : Type 0 → Type 0
Turn R = declared.Turn R AddressPrefix

-- the last link's map became the new one by the turn
abbrev pub IsTurned : {R : Type 0} → Rows R → Rows R → Turn R → Type 0
IsTurned old new Nothing = new ≡ old
IsTurned old new Quiet = new ≡ old
IsTurned old new (Sent change) = IsSent old new change.prefix (Some change)

-- the turn that was taken, by what came out
abbrev pub taken_turn : {R : Type 0} → Option (Change R) → Turn R
taken_turn None = Quiet
taken_turn (Some change) = Sent change
