-- The forwarding table follows its two links.
use Rattle.std.proofs.Common.{◌≡◌, ℕ, Option, Some, None, option_map, refl, sym, ap, subst, ◌∙◌}
use Rattle.std.specs.FinMap as map
use Rattle.register_interest.specs.Width.{width}
use Rattle.rib_route.specs.Rows.{Interior}
use Rattle.rib_route.specs.Rows.{External}
use Rattle.rib_route.specs.Rows.{FibRow}
use Rattle.rib_route.specs.Forwarding.{fib_row}
use Rattle.link_change.specs.Rows.{Rows, Candidates, CoversRows, together, no_rows}
use Rattle.link_change.specs.Turns.{IsTurned}
use Rattle.link_change.specs.Changes.{Change}
use Rattle.link_change.specs.Turns.{Turn}
use Rattle.link_change.specs.declared.turn.Turn.TheVariants.{Nothing, Quiet, Sent}
use Rattle.link_change.proofs.RowLemmas.{same_function, not_first, not_second}
use Rattle.link_change.proofs.TurnLemmas.{turned_by}
use Rattle.rib_merge.specs.declared.merge.Side.TheVariants.{Left, Right}
use Rattle.rib_merge.specs.Merging.{row_of_both, merged, MergesOn}
use Rattle.rib_merge.specs.Forwards.{forwarded, ForwardsOn}
use Rattle.register_interest.specs.Covers.{longest}
use Rattle.register_interest.specs.Registers.{Registry}
use Rattle.nexthop_resolver.specs.Ways.{Way}
use Rattle.nexthop_resolver.specs.Kept.{external_hop, over, way_of}
use Rattle.nexthop_resolver.specs.Resolving.{Resolving, goes_on}
use Rattle.nexthop_resolver.specs.Registered.{answer_of}
use Rattle.nexthop_resolver.specs.Takes.{TakesIn}
use Rattle.ext_int.specs.Fibs.{fib_distance, forwarding_table, FollowsInt, FollowsExt, FollowsTurn, TakesExt}
use Rattle.ext_int.specs.Laws.{reached}

-- a change of an interior route that is forwarded by as before
pub silent_int : (outer : Rows FibRow) (change : Change Interior) → ForwardsOn change None → FollowsInt outer change None
silent_int outer change none int now p is = ap (λ (r : Rows FibRow). merged fib_distance r outer) (none int now p is)

-- one that changes what is forwarded by
pub follows_int : (outer : Rows FibRow) (change : Change Interior) (inner : Change FibRow) (row : Option FibRow) (result : Option (Change FibRow))
    → ForwardsOn change (Some inner) → row ≡ outer change.prefix → MergesOn fib_distance Left inner row result → FollowsInt outer change result
follows_int outer change inner row result forwards at merges int now p is =
    let sent = forwards int now p is in
    merges (forwarded int) (forwarded now) outer p (ap outer (sent.0 ∙ sym is.0) ∙ sym at) sent

-- a change of resolved external rows
pub follows_ext : (int : Rows Interior) (outer : Change FibRow) (row : Option FibRow) (result : Option (Change FibRow))
    → row ≡ forwarded int outer.prefix → MergesOn fib_distance Right outer row result → FollowsExt int (Some outer) result
follows_ext int outer row result at merges old now p is = merges old now (forwarded int) p (sym at) is

-- so a turn leads from the forwarding table before it to the one after it
pub turn_leads : (int : Rows Interior) (old new : Rows FibRow) (inner turn : Turn FibRow) → IsTurned old new inner → FollowsTurn int inner turn
    → IsTurned (forwarding_table int old) (forwarding_table int new) turn
turn_leads int old new Nothing turn same is =
    subst (λ t. IsTurned (forwarding_table int old) (forwarding_table int new) t) (sym is) (ap (forwarding_table int) same)
turn_leads int old new Quiet turn same is =
    subst (λ t. IsTurned (forwarding_table int old) (forwarding_table int new) t) (sym is) (ap (forwarding_table int) same)
turn_leads int old new (Sent change) turn sent is =
    subst (λ t. IsTurned (forwarding_table int old) (forwarding_table int new) t) (sym is.1)
    (turned_by (forwarding_table int old) (forwarding_table int new) change.prefix is.0 (is.2 old new change.prefix sent))

-- what the resolver makes of a change of external rows is followed
pub takes_silent : (int : Rows Interior) (old new : Resolving Way) (change : Change External) → TakesIn external_hop over old new change None
    → TakesExt int old new change None
takes_silent int old new change taken ext now p counted is =
    let t = taken ext now p counted is in
    record { counted = t.counted; sent_is = ap (forwarding_table int) t.sent_is }

pub takes_ext : (int : Rows Interior) (old new : Resolving Way) (change : Change External) (outer : Change FibRow) (row : Option FibRow) (result : Option (Change FibRow))
    → TakesIn external_hop over old new change (Some outer) → row ≡ forwarded int change.prefix → MergesOn fib_distance Right outer row result
    → TakesExt int old new change result
takes_ext int old new change outer row result taken at merges ext now p counted is =
    let t = taken ext now p counted is in
    let here = at ∙ ap (forwarded int) (is.0 ∙ sym t.sent_is.0) in
    record { counted = t.counted; sent_is = merges _ _ (forwarded int) p (sym here) t.sent_is }

-- every row of the table stands at a candidate
pub table_covered : (a b : Candidates) (int : Rows Interior) (outer : Rows FibRow) → CoversRows a int → CoversRows b outer
    → CoversRows (together a b) (forwarding_table int outer)
table_covered a b int outer inner_covers outer_covers q none =
    let first = inner_covers q (not_first (a q) (b q) none) in
    let second = outer_covers q (not_second (a q) (b q) none) in
    ap (λ (row : Option Interior). row_of_both fib_distance (option_map fib_row row) (outer q)) first ∙ second

-- the table by the register's answers
pub resolved_at : (r : Registry Interior) (row : Option External)
    → goes_on external_hop over (λ (a : ℕ). Some (answer_of way_of r a)) row ≡ reached (longest width (map.get r.rows)) row
resolved_at r None = refl
resolved_at r (Some e) = refl

pub empty_table : forwarding_table no_rows no_rows ≡ no_rows
empty_table = same_function _ _ (λ q. refl)
