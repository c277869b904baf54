use Rattle.std.proofs.Common.{arith}
use Rattle.replay.proofs.TotalLemmas.{each_at}
use Rattle.replay.proofs.totals.push_each.Goals as goal

pub counting-preserved : goal.counting-preserved
counting-preserved c = each_at c.args.core.now.moment c.args.links.now c.counting.link-index _ c.args.out.now.items c.counting.out.items c.push_total.new.out.items (omega (arith, c.counting-test.true)) c.counting.invariant c.in_ok-push_total.ensures
