use Rattle.std.proofs.Common.{◌≡◌, ◌+◌}
use Rattle.bgp_wire.specs.Paths.{width_of}
use Rattle.bgp_wire.proofs.PathLaws.{AreRead}
use Rattle.bgp_wire.proofs.path.read_numbers.Given as goal

abbrev pub invariant-numbers : goal.invariant-numbers
invariant-numbers l = AreRead (width_of l.as4) l._done l.octets l.rest l.fn.path.segments l.path.segments × (l.path.missing + l._done ≡ l.count)
