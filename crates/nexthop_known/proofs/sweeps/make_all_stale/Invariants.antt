use Rattle.std.specs.BTreeSet.{btree_set_len}
use Rattle.nexthop_known.specs.Hops.{staled}
use Rattle.nexthop_known.specs.Ties.{AreTied, PartlyMaps}
use Rattle.nexthop_known.proofs.sweeps.make_all_stale.Given as goal

abbrev pub invariant-loop-hop : goal.invariant-loop-hop
invariant-loop-hop g l = AreTied l.hops l.stale l.held × PartlyMaps (staled l.subnet) l.fn.hops l.hops

abbrev pub decreases-loop-hop : goal.decreases-loop-hop
decreases-loop-hop g l = btree_set_len l.held
