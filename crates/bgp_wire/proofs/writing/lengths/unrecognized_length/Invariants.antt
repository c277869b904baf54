use Rattle.std.proofs.Common.{◌≡◌, ◌≤◌, ◌+◌, ◌*◌, ◌^◌, take, map, length}
use Rattle.bgp_wire.specs.Spelling.{unrecognized_attribute, octets_of}
use Rattle.bgp_wire.proofs.writing.lengths.unrecognized_length.Given as goal

abbrev pub invariant-loop-item : goal.invariant-loop-item
invariant-loop-item l = (l.total ≡ length (octets_of (map unrecognized_attribute (take l.item-index l.items)))) × (l.total ≤ l.item-index * (2 ^ 63 + 4))
