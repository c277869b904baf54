use Rattle.std.proofs.Common.{◌≡◌, ◌≤◌, ◌+◌, ◌*◌, ◌^◌, length}
use Rattle.bgp_wire.specs.Paths.{width_of}
use Rattle.bgp_wire.specs.Spelling.{path_octets}
use Rattle.bgp_wire.proofs.writing.lengths.path_length.Given as goal

abbrev pub invariant-segments : goal.invariant-segments
invariant-segments l =
    (l.total + length (path_octets (width_of l.as4) l.rest) ≡ length (path_octets (width_of l.as4) l.path))
    × (l.total + length l.rest * 2 ^ 64 ≤ length l.path * 2 ^ 64)

abbrev pub decreases-segments : goal.decreases-segments
decreases-segments l = length l.rest
