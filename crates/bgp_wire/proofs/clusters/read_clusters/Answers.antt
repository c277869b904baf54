use Rattle.bgp_wire.proofs.ClusterLaws.{goes}
use Rattle.bgp_wire.proofs.clusters.read_clusters.Goals as goal

pub clusters-preserved : goal.clusters-preserved
clusters-preserved c =
    rw (c.in_ok-push.ensures.items, c.split_at.ensures.back, c.new.ensures, c.four_octets.ensures)
    (goes c.args.value.now _ c.clusters._done c.clusters.rest.now c.clusters.clusters.items c.clusters-test.true c.clusters.invariant)
