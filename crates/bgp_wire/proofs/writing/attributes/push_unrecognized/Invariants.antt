use Rattle.std.proofs.Common.{◌≡◌, ◌++◌, take}
use Rattle.bgp_wire.specs.Spelling.{unrecognized_attributes, octets_of}
use Rattle.bgp_wire.proofs.writing.attributes.push_unrecognized.Given as goal

abbrev pub invariant-loop-item : goal.invariant-loop-item
invariant-loop-item l = l.out.items ≡ l.fn.out.items ++ octets_of (unrecognized_attributes l.place (take l.item-index l.items))
