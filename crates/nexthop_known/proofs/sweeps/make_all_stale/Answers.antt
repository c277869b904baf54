use Rattle.nexthop_known.proofs.TieLemmas.{stale_tied, stale_more_of, all_stale}
use Rattle.nexthop_known.proofs.sweeps.make_all_stale.Goals as goal

pub loop-hop-preserved : goal.loop-hop-preserved
loop-hop-preserved g c = (
  stale_tied c.loop-hop.hops c.make_stale.new.hops c.loop-hop.stale c.insert.new.self c.loop-hop.held c.remove.new.self c.in-Some.hop c.args.subnet c.loop-hop.invariant.0 c.in-Some.ensures c.make_stale.ensures c.in_ok-insert.ensures.updates.0 c.remove.ensures.updates.0,
  stale_more_of c.args.hops.now c.loop-hop.hops c.make_stale.new.hops c.loop-hop.stale c.loop-hop.held c.in-Some.hop c.args.subnet c.loop-hop.invariant.0 c.in-Some.ensures c.make_stale.ensures c.loop-hop.invariant.1,
)

pub returns-clause-ok : goal.returns-clause-ok
returns-clause-ok g c = all_stale c.args.hops.now c.loop-hop.hops c.loop-hop.stale c.loop-hop.held c.args.subnet c.loop-hop.invariant.0 c.in_default.ensures c.loop-hop.invariant.1
