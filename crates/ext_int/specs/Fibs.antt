-- The forwarding table: of interior and external routes, by distance (NSDI 2005, section 5.2).
use Rattle.std.specs.Prelude.{◌≡◌, ◌⊎◌, ℕ, Option, Some}
use Rattle.addr4.specs.Prefixes.{AddressPrefix}
use Rattle.rib_route.specs.Rows.{Interior}
use Rattle.rib_route.specs.Rows.{External}
use Rattle.rib_route.specs.Rows.{FibRow}
use Rattle.rib_route.specs.Distances.{distance}
use Rattle.link_change.specs.Rows.{Rows, Candidates}
use Rattle.link_change.specs.Changes.{IsSent}
use Rattle.link_change.specs.Turns.{taken_turn}
use Rattle.link_change.specs.Changes.{Change}
use Rattle.link_change.specs.Turns.{Turn}
use Rattle.link_change.specs.declared.turn.Turn.TheVariants.{Nothing, Quiet, Sent}
use Rattle.rib_merge.specs.Merging.{merged}
use Rattle.rib_merge.specs.Forwards.{forwarded}
use Rattle.register_interest.specs.Registers.{Registry}
use Rattle.nexthop_known.specs.Counts.{AreCounted}
use Rattle.nexthop_resolver.specs.Ways.{Way}
use Rattle.nexthop_resolver.specs.Kept.{external_hop, over, way_of}
use Rattle.nexthop_resolver.specs.Resolving.{Resolving, named_by, res_rows}
use Rattle.nexthop_resolver.specs.Turns.{IsTurn}

abbrev pub fib_distance : FibRow → ℕ
fib_distance r = distance r.proto

-- at each prefix the row of least distance: of the interior route, and of the external route, where that is resolved
abbrev pub forwarding_table : Rows Interior → Rows FibRow → Rows FibRow
forwarding_table int outer = merged fib_distance (forwarded int) outer

-- external routes by the answers about their next hops
abbrev pub resolved_rows : Resolving Way → Rows External → Rows FibRow
resolved_rows s ext = res_rows external_hop over s ext

-- the rows of `fib`
abbrev pub fib_table : Resolving Way → Rows Interior → Rows External → Rows FibRow
fib_table s int ext = forwarding_table int (resolved_rows s ext)

-- where the change that comes in leads from interior rows to new ones, what goes out leads from the forwarding table to the new
-- one, beside these external rows
abbrev pub FollowsInt : Rows FibRow → Change Interior → Option (Change FibRow) → Type 0
FollowsInt outer change result =
    (int now : Rows Interior) (p : AddressPrefix) → IsSent int now p (Some change)
    → IsSent (forwarding_table int outer) (forwarding_table now outer) p result

-- where a change leads from resolved external rows to new ones, or none does and they stay, what goes out leads from the
-- forwarding table to the new one, beside these interior rows
abbrev pub FollowsExt : Rows Interior → Option (Change FibRow) → Option (Change FibRow) → Type 0
FollowsExt int change result =
    (outer now : Rows FibRow) (p : AddressPrefix) → IsSent outer now p change
    → IsSent (forwarding_table int outer) (forwarding_table int now) p result

-- the next hops of the external rows are counted, and what goes out led from the old forwarding table to the new one
pub record TakesOver (int : Rows Interior) (old new : Resolving Way) (ext now : Rows External) (p : AddressPrefix) (sent : Option (Change FibRow)) : Type 0 where
  pub counted : AreCounted (named_by external_hop now) new.counts
  pub sent_is : IsSent (fib_table old int ext) (fib_table new int now) p sent

-- so it is for any external rows that the change leads on, where their next hops were counted before
abbrev pub TakesExt : Rows Interior → Resolving Way → Resolving Way → Change External → Option (Change FibRow) → Type 0
TakesExt int old new change sent =
    (ext now : Rows External) (p : AddressPrefix) → AreCounted (named_by external_hop ext) old.counts → IsSent ext now p (Some change)
    → TakesOver int old new ext now p sent

-- ---- turns
-- what a turn comes to below, by what came out of the resolver
abbrev pub FollowsTurn : Rows Interior → Turn FibRow → Turn FibRow → Type 0
FollowsTurn int Nothing turn = turn ≡ Nothing
FollowsTurn int Quiet turn = turn ≡ Quiet
FollowsTurn int (Sent change) turn = (sent : Option (Change FibRow)) × (turn ≡ taken_turn sent) × FollowsExt int (Some change) sent

-- one turn of the resolver, and what it comes to below
pub record TakesTurn (int : Rows Interior) (candidates : Candidates) (ext : Rows External) (was is : Registry Interior) (old new : Resolving Way) (turn : Turn FibRow) : Type 0 where
  pub inner : Turn FibRow
  pub resolves : IsTurn external_hop over candidates ext way_of was is old new inner
  pub follows : FollowsTurn int inner turn

-- no turn was taken, or one whose change is lost
abbrev pub StopsInTurn : Candidates → Rows External → Registry Interior → Registry Interior → Resolving Way → Resolving Way → Type 0
StopsInTurn candidates ext was is old new =
    (new ≡ old) ⊎ ((inner : Turn FibRow) × IsTurn external_hop over candidates ext way_of was is old new inner)
