-- A stage whose rows are made by a function that is changed in the background: what it passes on, and what the turns of the
-- walk do.
use Rattle.std.specs.Prelude.{◌≡◌, ◌&&◌, Bool, is_some, Option, Some, None}
use Rattle.addr4.specs.Prefixes.{AddressPrefix}
use Rattle.link_change.specs.Rows.{Rows, Candidates, IsNextCandidate}
use Rattle.link_change.specs.Changes.{IsSent, ComputesOn}
use Rattle.link_change.specs.Changes.{Change}
use Rattle.link_change.specs.Turns.{Turn}
use Rattle.link_change.specs.declared.turn.Turn.TheVariants.{Nothing, Quiet, Sent}
use Rattle.pass_core.specs.Passed.{Passed, Walked, function_at, holds_up, stepped, finished}

-- the link's map became the new one by what was sent: a change at the candidate, or none
abbrev pub IsSentAt : {B : Type 0} → Option AddressPrefix → Rows B → Rows B → Option (Change B) → Type 0
IsSentAt None old new sent = (sent ≡ None) × (new ≡ old)
IsSentAt (Some p) old new sent = IsSent old new p sent

-- the walk goes to the next candidate, or ends where there is none
abbrev pub walked_on : {F : Type 0} → Option AddressPrefix → Passed F → Passed F
walked_on None s = finished s
walked_on (Some p) s = stepped s p

-- whether the row that is made there of one above, if there is one, may be by another function than the latest one
abbrev pub row_lags : {F A : Type 0} → Passed F → AddressPrefix → Option A → Bool
row_lags s q row = is_some row && holds_up s q

-- What a function makes of a row above, at a prefix, is `apply`.
module _ {F A B : Type 0} (apply : F → AddressPrefix → Option A → Option B) where
  -- what a row above makes at a prefix, by the function that holds there
  abbrev pub passed : Passed F → AddressPrefix → Option A → Option B
  passed s q row = apply (function_at s q) q row

  -- the rows of the link below: at each prefix by the function that holds there
  abbrev pub passed_rows : Passed F → Rows A → Rows B
  passed_rows s upper q = apply (function_at s q) q (upper q)

  -- those where one function holds everywhere
  abbrev pub rows_by : F → Rows A → Rows B
  rows_by f upper q = apply f q (upper q)

  -- where the change that comes in leads from the rows above to new ones, what goes out leads from the rows below to the new ones there
  abbrev pub IsPassedOn : Passed F → Change A → Option (Change B) → Type 0
  IsPassedOn s change result = ComputesOn (passed s) change result

  -- A turn of a walk that is on, over the rows and candidates of the link above: it goes to the least candidate beyond its place.
  -- There the new function holds from now on; the link below changes at that prefix at most. Where there is no candidate, the
  -- walk ends.
  pub record Walks (candidates : Candidates) (upper : Rows A) (old new : Passed F) (sent : Option (Change B)) : Type 0 where
    pub walk : Walked F
    pub on : old.walk ≡ Some walk
    pub next : Option AddressPrefix
    pub least : IsNextCandidate candidates walk.place next
    pub after : new ≡ walked_on next old
    pub changes : IsSentAt next (passed_rows old upper) (passed_rows new upper) sent

  -- what a turn came to: where no walk is on, nothing
  abbrev pub IsWalked : Candidates → Rows A → Passed F → Passed F → Turn B → Type 0
  IsWalked candidates upper old new Nothing = (old.walk ≡ None) × (new ≡ old)
  IsWalked candidates upper old new Quiet = Walks candidates upper old new None
  IsWalked candidates upper old new (Sent change) = Walks candidates upper old new (Some change)
