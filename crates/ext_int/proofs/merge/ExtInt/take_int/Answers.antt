use Rattle.std.proofs.Common.{◌≡◌, ◌∙◌, ap}
use Rattle.nexthop_resolver.specs.Ways.{Way}
use Rattle.nexthop_resolver.specs.Resolving.{Resolving}
use Rattle.ext_int.specs.Fibs.{resolved_rows}
use Rattle.ext_int.proofs.FibLemmas.{silent_int, follows_int}
use Rattle.ext_int.proofs.merge.ExtInt.take_int.Goals as goal

pub returns-in_default : goal.returns-in_default
returns-in_default g c = silent_int (resolved_rows c.args.self.now (g.E.Upstream.rows c.args.ext.now)) c.args.change.now c.in_default.ensures

pub returns : goal.returns
returns g c =
    let ext = g.E.Upstream.rows c.args.ext.now in
    let at : c.in_ok-outer.outer ≡ resolved_rows c.args.self.now ext c.args.change.now.prefix =
    c.in_ok-outer.ensures ∙ ap (λ (s : Resolving Way). resolved_rows s ext c.args.change.now.prefix) c.self.view_is in
    follows_int (resolved_rows c.args.self.now ext) c.args.change.now c.in-Some.inner c.in_ok-outer.outer c.take_in.result c.in-Some.ensures at c.take_in.ensures
