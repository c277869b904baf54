use Rattle.std.proofs.Common.{◌≡◌, ◌++◌, take}
use Rattle.std.specs.List.{flat_map}
use Rattle.byteorder.specs.Endian.{big_bytes}
use Rattle.bgp_wire.specs.Paths.{width_of}
use Rattle.bgp_wire.proofs.writing.path.push_numbers.Given as goal

abbrev pub invariant-loop-asn : goal.invariant-loop-asn
invariant-loop-asn l = l.out.items ≡ l.fn.out.items ++ flat_map (big_bytes (width_of l.as4)) (take l.asn-index l.numbers)
