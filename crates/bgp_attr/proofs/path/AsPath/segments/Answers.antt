use Rattle.std.proofs.Common.{ap, arith}
use Rattle.bgp_attr.specs.Paths.{hops}
use Rattle.bgp_attr.proofs.WordLaws.{few_segments, few_hops}
use Rattle.bgp_attr.proofs.path.AsPath.segments.Goals as goal

pub returns-clause-few : goal.returns-clause-few
returns-clause-few c = few_segments c.self.inside.words.items c.as_slice-words.result.now c.args.self.now c.self.view_is c.as_slice-words.ensures.value (omega arith)

pub returns-clause-short : goal.returns-clause-short
returns-clause-short c = omega (arith, few_hops c.self.inside.words.items, ap hops c.self.view_is, c.self.invariant.2)
