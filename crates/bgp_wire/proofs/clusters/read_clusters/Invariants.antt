use Rattle.bgp_wire.proofs.ClusterLaws.{IsReadSo}
use Rattle.bgp_wire.proofs.clusters.read_clusters.Given as goal

abbrev pub invariant-clusters : goal.invariant-clusters
invariant-clusters l = IsReadSo l.value l.count l._done l.rest l.clusters.items
