use Rattle.std.proofs.Common.{length}
use Rattle.bgp_wire.proofs.GatherLaws.{IsGatheredSo}
use Rattle.bgp_wire.proofs.gathered.read_attributes.Given as goal

abbrev pub invariant-attributes : goal.invariant-attributes
invariant-attributes l = IsGatheredSo l.profile l.external l.bytes l.rest l.gathered

abbrev pub decreases-attributes : goal.decreases-attributes
decreases-attributes l = length l.rest
