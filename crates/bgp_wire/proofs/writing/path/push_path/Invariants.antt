use Rattle.std.proofs.Common.{◌≡◌, ◌++◌, length}
use Rattle.std.specs.Prelude.{All}
use Rattle.bgp_wire.specs.Paths.{width_of}
use Rattle.bgp_wire.specs.Spelling.{FitsSegment, path_octets}
use Rattle.bgp_wire.specs.Lengths.{head_octets}
use Rattle.bgp_wire.proofs.writing.path.push_path.Given as goal

abbrev pub invariant-segments : goal.invariant-segments
invariant-segments l =
    (l.out.items ++ path_octets (width_of l.as4) l.rest ≡ l.fn.out.items ++ head_octets 64 2 (length (path_octets (width_of l.as4) l.path)) ++ path_octets (width_of l.as4) l.path)
    × All (FitsSegment l.as4) l.rest

abbrev pub decreases-segments : goal.decreases-segments
decreases-segments l = length l.rest
