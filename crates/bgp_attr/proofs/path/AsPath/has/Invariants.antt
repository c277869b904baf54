use Rattle.std.proofs.Common.{◌↔◌, length}
use Rattle.bgp_attr.specs.Paths.{HasAs}
use Rattle.bgp_attr.proofs.path.AsPath.has.Given as goal

abbrev pub invariant-segments : goal.invariant-segments
invariant-segments l = HasAs l.self l.asn ↔ HasAs l.rest l.asn

abbrev pub decreases-segments : goal.decreases-segments
decreases-segments l = length l.rest
