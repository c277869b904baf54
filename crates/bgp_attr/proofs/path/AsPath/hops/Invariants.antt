use Rattle.std.proofs.Common.{◌≡◌, ◌≤◌, ◌+◌, ◌*◌, ◌^◌, length}
use Rattle.bgp_attr.specs.Paths.{hops}
use Rattle.bgp_attr.proofs.path.AsPath.hops.Given as goal

abbrev pub invariant-segments : goal.invariant-segments
invariant-segments l = (l.total + hops l.rest ≡ hops l.self) × (l.total + length l.rest * 2 ^ 64 ≤ length l.self * 2 ^ 64)

abbrev pub decreases-segments : goal.decreases-segments
decreases-segments l = length l.rest
