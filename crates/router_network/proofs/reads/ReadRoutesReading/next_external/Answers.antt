use Rattle.router_moments.proofs.Common.{sym, subst, CoversRows, key_of, best_rows}
use Rattle.std.proofs.Common.{true, false, Some, None}
use Rattle.std.specs.Option.{option_copied}
use Rattle.router_moments.specs.Moments.{read_rows_by}
use Rattle.router_network.proofs.ReadRows.{read_by_one, tested, none_more, one_found, goes_on}
use Rattle.router_network.proofs.reads.ReadRoutesReading.next_external.Goals as goal

pub returns-then-is_some : goal.returns-then-is_some
returns-then-is_some g c =
    let s = c.args.self.now in
    let best = best_rows (g.B.Branches.rows s.best.now.all.now) in
    let rows = read_rows_by s.exits.now.queue (option_copied s.reader) best in
    let covers = subst (CoversRows _) (sym (read_by_one s.exits.now.queue s.reader c.in_ok-reader.reader best c.in_ok-reader.was)) c.in-Some.ensures.covers in
    let there = tested rows c.in-Some.p c.external.result c.is_some.result true c.external.ensures c.is_some.ensures c.if-is_some.true in
    c.routes.invariant.leads (Some c.in-Some.p) (one_found rows _ covers (key_of c.routes.place) c.in-Some.p c.in-Some.ensures.next there)

pub routes-preserved : goal.routes-preserved
routes-preserved g c =
    let s = c.args.self.now in
    let best = best_rows (g.B.Branches.rows s.best.now.all.now) in
    let rows = read_rows_by s.exits.now.queue (option_copied s.reader) best in
    let covers = subst (CoversRows _) (sym (read_by_one s.exits.now.queue s.reader c.in_ok-reader.reader best c.in_ok-reader.was)) c.in-Some.ensures.covers in
    let none = tested rows c.in-Some.p c.external.result c.is_some.result false c.external.ensures c.is_some.ensures c.if-is_some.false in
    record {
      placed = (c.known-in-Some.ensures.masked.0, c.known-in-Some.ensures.fits);
      leads = λ result is. c.routes.invariant.leads result (goes_on rows _ covers (key_of c.routes.place) c.in-Some.p c.in-Some.ensures.next none result is);
    }

pub returns : goal.returns
returns g c =
    let s = c.args.self.now in
    let best = best_rows (g.B.Branches.rows s.best.now.all.now) in
    let rows = read_rows_by s.exits.now.queue (option_copied s.reader) best in
    let covers = subst (CoversRows _) (sym (read_by_one s.exits.now.queue s.reader c.in_ok-reader.reader best c.in_ok-reader.was)) c.in_default-next_read.ensures.covers in
    c.routes.invariant.leads None (none_more rows _ covers (key_of c.routes.place) c.in_default-next_read.ensures.next)
