-- What comes of a change of the interior routes, of interests that are given up, and of a turn is one.
use Rattle.std.proofs.Common.{sym, ap, subst, ◌∙◌}
use Rattle.link_change.specs.Changes.{IsSent}
use Rattle.rib_route.specs.Rows.{External}
use Rattle.rib_route.specs.Rows.{FibRow}
use Rattle.nexthop_resolver.specs.Ways.{Way}
use Rattle.nexthop_resolver.specs.Kept.{external_hop, over, way_of, same_way}
use Rattle.nexthop_resolver.proofs.AlikeLemmas.{tells_ways}
use Rattle.rib_exit.specs.RibExits.{RibExit}
use Rattle.rib_exit.specs.Exits.{ext_rows, ext_candidates, fib_over}
use Rattle.rib_exit.specs.Steps.{fib_entries}
use Rattle.hop_determinism.specs.Laws.{ClientsRegisterIsOne, StaleIsOne, TurnedIsOne, TurnedHasWork}
use Rattle.stage_determinism.proofs.OneLemmas.{sent_is_one}
use Rattle.forward_determinism.specs.Laws.{InteriorIsOne, ReachedIsOne, TurnIsOne, TurnHasWork}
use Rattle.forward_determinism.proofs.FallLemmas.{one_exit, one_register}

-- ---- changes of the interior routes
pub interior_is_one : InteriorIsOne
interior_is_one change sent sent' e entries entries' int now p leads takes also =
    let same = sent_is_one (fib_over e int) (fib_over e now) p p sent sent' (takes.goes int now p leads).fib (also.goes int now p leads).fib in
    (same, takes.lines ∙ ap fib_entries same ∙ sym also.lines)

pub reached_is_one : StaleIsOne Way → ReachedIsOne
reached_is_one stale_is_one out e f f' reaches also =
    one_exit f f' (reaches.stays.rows ∙ sym also.stays.rows) (stale_is_one out 0 e.forwarding f.forwarding f'.forwarding reaches.reaches also.reaches)

-- ---- turns
pub turn_is_one : TurnedIsOne Way External FibRow → ClientsRegisterIsOne Way → TurnIsOne
turn_is_one turned_is_one register_is_one int sent sent' was is is' e f f' entries entries' turn also =
    let hops = turned_is_one external_hop over (ext_candidates e) (ext_rows e) way_of was is is' e.forwarding f.forwarding f'.forwarding turn.resolved also.resolved turn.turned also.turned in
    let exit = one_exit f f' (turn.rows ∙ sym also.rows) hops.0 in
    let same = sent_is_one (fib_over e int) (fib_over f' int) turn.fib.0 also.fib.0 sent sent'
    (subst (λ (x : RibExit). IsSent (fib_over e int) (fib_over x int) turn.fib.0 sent) exit turn.fib.1) also.fib.1 in
    (same, one_register register_is_one was is is' f f' exit turn.agreed also.agreed, exit, turn.lines ∙ ap fib_entries same ∙ sym also.lines)

pub turn_has_work : TurnedHasWork Way External FibRow → TurnHasWork
turn_has_work has_work int sent was is e f entries turn =
    has_work same_way tells_ways external_hop over (ext_candidates e) (ext_rows e) way_of was is e.forwarding f.forwarding turn.resolved turn.turned
