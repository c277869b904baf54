use Rattle.nexthop_known.proofs.KnownLemmas.{differing_here}
use Rattle.nexthop_known.proofs.known.Known.differs_at.Goals as goal

pub returns : goal.returns
returns g c = differing_here c.self.inside.hops c.self.inside.differing c.args.self.now c.args.hop c.contains.result c.self.invariant.told c.self.view_is c.contains.ensures
