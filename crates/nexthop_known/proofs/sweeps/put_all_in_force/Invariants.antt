use Rattle.std.specs.BTreeSet.{btree_set_len}
use Rattle.nexthop_known.specs.Hops.{settled}
use Rattle.nexthop_known.specs.Ties.{AreTold, PartlyMaps}
use Rattle.nexthop_known.proofs.sweeps.put_all_in_force.Given as goal

abbrev pub invariant-loop-hop : goal.invariant-loop-hop
invariant-loop-hop g l = AreTold l.hops l.differing × PartlyMaps settled l.fn.hops l.hops

abbrev pub decreases-loop-hop : goal.decreases-loop-hop
decreases-loop-hop g l = btree_set_len l.differing
