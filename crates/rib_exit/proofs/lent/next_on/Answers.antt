use Rattle.std.proofs.Common.{true, false, Some, None}
use Rattle.addr4.specs.Places.{key_of}
use Rattle.rib_exit.proofs.LentLemmas.{tested, none_more, one_found, goes_on}
use Rattle.rib_exit.proofs.lent.next_on.Goals as goal

pub returns-then-is_some : goal.returns-then-is_some
returns-then-is_some g c =
    let best = g.B.Reading.rows c.args.best.now in
    let own = tested best c.args.link c.in-Some.p c.row_on.result c.is_some.result true c.row_on.ensures c.is_some.ensures c.if-is_some.true in
    c.routes.invariant.leads (Some c.in-Some.p) (one_found best c.args.link (key_of c.routes.place) c.in-Some.p c.in-Some.ensures own)

pub routes-preserved : goal.routes-preserved
routes-preserved g c =
    let best = g.B.Reading.rows c.args.best.now in
    let none = tested best c.args.link c.in-Some.p c.row_on.result c.is_some.result false c.row_on.ensures c.is_some.ensures c.if-is_some.false in
    record {
      placed = (c.known-in-Some.ensures.masked.0, c.known-in-Some.ensures.fits);
      leads = λ result is. c.routes.invariant.leads result (goes_on best c.args.link (key_of c.routes.place) c.in-Some.p c.in-Some.ensures none result is);
    }

pub returns : goal.returns
returns g c = c.routes.invariant.leads None (none_more (g.B.Reading.rows c.args.best.now) c.args.link (key_of c.routes.place) c.in_default-next_external.ensures)
