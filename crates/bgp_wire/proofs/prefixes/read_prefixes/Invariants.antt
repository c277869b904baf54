use Rattle.std.proofs.Common.{◌≡◌, length}
use Rattle.bgp_wire.specs.Faults.{notice, code_of, subcode_of}
use Rattle.bgp_wire.specs.Prefixes.{prefixes_at}
use Rattle.bgp_wire.proofs.ItemLaws.{with_front}
use Rattle.bgp_wire.proofs.prefixes.read_prefixes.Given as goal

abbrev pub invariant-prefixes : goal.invariant-prefixes
invariant-prefixes g l =
    let read = prefixes_at g.F.Family.V6 (notice (code_of l.kind) (subcode_of l.kind) l.octets) in
    with_front l.found.items (read l.rest) ≡ read l.bytes

abbrev pub decreases-prefixes : goal.decreases-prefixes
decreases-prefixes g l = length l.rest
