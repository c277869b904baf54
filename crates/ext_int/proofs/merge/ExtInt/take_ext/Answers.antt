use Rattle.std.proofs.Common.{◌≡◌, Option, None, option_map, ◌∙◌, ap, subst}
use Rattle.rib_route.specs.Rows.{FibRow}
use Rattle.rib_route.specs.Forwarding.{fib_row}
use Rattle.link_change.specs.Changes.{Change}
use Rattle.rib_merge.specs.Forwards.{forwarded}
use Rattle.nexthop_resolver.specs.Ways.{Way}
use Rattle.nexthop_resolver.specs.Kept.{external_hop, over}
use Rattle.nexthop_resolver.specs.Resolving.{Resolving}
use Rattle.nexthop_resolver.specs.Takes.{TakesIn}
use Rattle.ext_int.specs.Fibs.{TakesExt}
use Rattle.ext_int.proofs.FibLemmas.{takes_silent, takes_ext}
use Rattle.ext_int.proofs.merge.ExtInt.take_ext.Goals as goal

pub returns-in_default-clause-taken : goal.returns-in_default-clause-taken
returns-in_default-clause-taken g c =
    let int = g.I.Upstream.rows c.args.int.now in
    let P : Option (Change FibRow) → Type 0 = λ sent. TakesIn external_hop over c.self.inside.hops c.take_in.new.self c.args.change sent in
    subst (λ (s : Resolving Way). TakesExt int s c.take_in.new.self c.args.change None) c.self.view_is
    (takes_silent int c.self.inside.hops c.take_in.new.self c.args.change (subst P c.in_default.is c.in_ok-outer.ensures.taken))

pub returns-clause-taken : goal.returns-clause-taken
returns-clause-taken g c =
    let int = g.I.Upstream.rows c.args.int.now in
    let P : Option (Change FibRow) → Type 0 = λ sent. TakesIn external_hop over c.self.inside.hops c.take_in.new.self c.args.change sent in
    let at : c.forwarded-inner.result ≡ forwarded int c.args.change.prefix = c.forwarded-inner.ensures ∙ ap (option_map fib_row) c.in_ok-asked.ensures in
    subst (λ (s : Resolving Way). TakesExt int s c.take_in.new.self c.args.change c.take_in-2.result) c.self.view_is
    (takes_ext int c.self.inside.hops c.take_in.new.self c.args.change c.in-Some.outer c.forwarded-inner.result c.take_in-2.result
    (subst P c.in-Some.is c.in_ok-outer.ensures.taken) at c.take_in-2.ensures)
