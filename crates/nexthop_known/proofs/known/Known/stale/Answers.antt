use Rattle.std.proofs.lemmas.Result.{on_ok_weaker, on_err_weaker}
use Rattle.nexthop_known.specs.Hops.{staled}
use Rattle.nexthop_known.proofs.KnownLemmas.{mapped, partly_mapped}
use Rattle.nexthop_known.proofs.known.Known.stale.Goals as goal

pub returns-clause-ok : goal.returns-clause-ok
returns-clause-ok g c = on_ok_weaker c.make_all_stale.result (mapped (staled c.args.subnet) c.self.inside.hops c.make_all_stale.new.hops c.args.self.now c.self.view_is) c.make_all_stale.ensures.ok

pub returns-clause-err : goal.returns-clause-err
returns-clause-err g c = on_err_weaker c.make_all_stale.result (partly_mapped (staled c.args.subnet) c.self.inside.hops c.make_all_stale.new.hops c.args.self.now c.self.view_is) c.make_all_stale.ensures.err
