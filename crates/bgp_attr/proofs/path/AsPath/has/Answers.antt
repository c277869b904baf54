use Rattle.bgp_attr.proofs.HasLaws.{has_rest}
use Rattle.bgp_attr.proofs.MarkLaws.{hasnt}
use Rattle.bgp_attr.proofs.path.AsPath.has.Goals as goal

pub segments-preserved : goal.segments-preserved
segments-preserved c = has_rest c.args.self.now c.segments.rest c.in-Some.segment c.in-Some.others c.args.asn (c.in-Some.ensures) c.has.result c.has.ensures c.if-has.false c.segments.invariant

pub returns-then-not-may_have : goal.returns-then-not-may_have
returns-then-not-may_have c = (
  λ t. absurd (cc),
  λ has. absurd (hasnt c.self.inside.words.items c.args.self.now c.self.inside.marks.bits c.args.asn c.may_have.result c.self.view_is c.self.invariant.1 c.may_have.ensures c.if-not-may_have.true has),
)
