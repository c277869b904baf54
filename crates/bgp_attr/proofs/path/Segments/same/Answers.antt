use Rattle.bgp_attr.proofs.WordLaws.{same_path}
use Rattle.bgp_attr.proofs.path.Segments.same.Goals as goal

pub returns : goal.returns
returns c = same_path c.self.inside.words.now c.other.inside.words.now c.args.self.now c.args.other.now c.eq.result c.eq.ensures c.self.view_is c.other.view_is c.self.invariant c.other.invariant
