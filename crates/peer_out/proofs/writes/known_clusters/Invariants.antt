use Rattle.std.proofs.Common.{ℕ, ◌<◌, ◌^◌, get_or}
use Rattle.peer_out.proofs.writes.known_clusters.Given as goal

abbrev pub invariant-loop-cluster : goal.invariant-loop-cluster
invariant-loop-cluster l = (k d : ℕ) → k < l.cluster-index → get_or l.clusters k d < 2 ^ 32
