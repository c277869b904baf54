use Rattle.std.proofs.Common.{◌≡◌, length}
use Rattle.bgp_wire.specs.Paths.{width_of, path_at}
use Rattle.bgp_wire.proofs.ItemLaws.{with_front}
use Rattle.bgp_wire.proofs.path.read_path.Given as goal

abbrev pub invariant-segments : goal.invariant-segments
invariant-segments l = (with_front l.path.segments (path_at (width_of l.as4) l.rest) ≡ path_at (width_of l.as4) l.bytes) × (l.path.missing ≡ 0)

abbrev pub decreases-segments : goal.decreases-segments
decreases-segments l = length l.rest
