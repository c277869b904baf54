use Rattle.std.proofs.Common.{length, ap, arith}
use Rattle.bgp_attr.proofs.LentLaws.{two_more_at_most}
use Rattle.bgp_attr.proofs.lent.LentPath.lent.Goals as goal

pub returns-clause-few : goal.returns-clause-few
returns-clause-few c = omega (arith, ap length c.self.view_is, two_more_at_most c.self.inside.times c.self.inside.asn c.self.inside.segments c.self.invariant.1)
