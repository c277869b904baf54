use Rattle.std.proofs.Common.{◌≡◌, option_map, ◌∙◌, ap, subst, sym}
use Rattle.rib_route.specs.Rows.{FibRow}
use Rattle.rib_route.specs.Forwarding.{fib_row}
use Rattle.link_change.specs.Turns.{Turn}
use Rattle.rib_merge.specs.Forwards.{forwarded}
use Rattle.ext_int.specs.Fibs.{FollowsTurn}
use Rattle.ext_int.proofs.FibLemmas.{follows_ext}
use Rattle.ext_int.proofs.merge.merged_turn.Goals as goal

pub returns-in_ok-asked-in-Sent : goal.returns-in_ok-asked-in-Sent
returns-in_ok-asked-in-Sent g c =
    let int = g.I.Upstream.rows c.args.int.now in
    let at : c.forwarded-inner.result ≡ forwarded int c.in-Sent.outer.prefix = c.forwarded-inner.ensures ∙ ap (option_map fib_row) c.in_ok-asked-in-Sent.ensures in
    subst (λ (t : Turn FibRow). FollowsTurn int t c.taken.result) (sym c.in-Sent.is)
    (c.take_in.result, c.taken.ensures, follows_ext int c.in-Sent.outer c.forwarded-inner.result c.take_in.result at c.take_in.ensures)
