-- Laws of the forwarding table, for the crates above.
use Rattle.std.specs.Prelude.{◌≡◌, ℕ, Bool, false, Option, Some, None, option_map}
use Rattle.std.specs.FinMap as map
use Rattle.addr4.specs.Prefixes.{AddressPrefix}
use Rattle.register_interest.specs.Width.{width}
use Rattle.rib_route.specs.Rows.{Interior}
use Rattle.rib_route.specs.Rows.{External}
use Rattle.rib_route.specs.Rows.{FibRow}
use Rattle.rib_route.specs.Forwarding.{fib_row}
use Rattle.link_change.specs.Rows.{Rows, Candidates, no_rows}
use Rattle.link_change.specs.Turns.{IsTurned}
use Rattle.link_change.specs.Turns.{Turn}
use Rattle.rib_merge.specs.Merging.{row_of_both}
use Rattle.register_interest.specs.Covers.{longest}
use Rattle.register_interest.specs.Registers.{Registry}
use Rattle.nexthop_known.specs.Counts.{AreCounted}
use Rattle.nexthop_resolver.specs.Ways.{Way}
use Rattle.nexthop_resolver.specs.Kept.{external_hop, over, way_of}
use Rattle.nexthop_resolver.specs.Resolving.{Resolving, AreNamed, named_by, nothing_known}
use Rattle.nexthop_resolver.specs.Registered.{Agrees}
use Rattle.nexthop_resolver.specs.Takes.{Invalidates}
use Rattle.nexthop_resolver.specs.Left.{TellsAlike, hop_lags}
use Rattle.ext_int.specs.Fibs.{fib_distance, fib_table, TakesTurn}

-- What a turn sends leads from the forwarding table before it to the one after it.
abbrev pub TurnLeads : Type 0
TurnLeads =
    (int : Rows Interior) (candidates : Candidates) (ext : Rows External) (was is : Registry Interior) (old new : Resolving Way) (turn : Turn FibRow)
    → TakesTurn int candidates ext was is old new turn → IsTurned (fib_table old int ext) (fib_table new int ext) turn

-- Where answers become stale, the forwarding table stays.
abbrev pub StaleKeepsTable : Type 0
StaleKeepsTable =
    (int : Rows Interior) (ext : Rows External) (s : AddressPrefix) (old new : Resolving Way) → Invalidates s old new → fib_table new int ext ≡ fib_table old int ext

-- Before the first row of either link there is none below.
abbrev pub NoRowsAtFirst : Type 0
NoRowsAtFirst = fib_table (nothing_known 0) no_rows no_rows ≡ no_rows

-- an external route by the longest interior route that holds its next hop
abbrev pub reached : (ℕ → Option (AddressPrefix × Interior)) → Option External → Option FibRow
reached found None = None
reached found (Some r) = over r (way_of (found r.next_hop))

-- the forwarding table that interior and external routes make, by the longest matches of next hops
abbrev pub table_from : (ℕ → Option (AddressPrefix × Interior)) → Rows Interior → Rows External → Rows FibRow
table_from found int ext q = row_of_both fib_distance (option_map fib_row (int q)) (reached found (ext q))

-- At a prefix that no next hop of an external route holds up, the row is that of this table. (The test tells equal answers.)
abbrev pub ExactUnlessHeldUp : Type 0
ExactUnlessHeldUp =
    (alike : Way → Way → Bool) → TellsAlike alike → (int : Rows Interior) (ext : Rows External) (r : Registry Interior) (s : Resolving Way) (q : AddressPrefix)
    → Agrees way_of s.client s.known r → AreNamed s.counts s.known → AreCounted (named_by external_hop ext) s.counts → hop_lags alike s q (option_map external_hop (ext q)) ≡ false
    → fib_table s int ext q ≡ table_from (longest width (map.get r.rows)) int ext q
