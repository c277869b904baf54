use Rattle.nexthop_known.proofs.KnownLemmas.{differing_told}
use Rattle.nexthop_known.proofs.known.Known.differs.Goals as goal

pub returns : goal.returns
returns g c = differing_told c.self.inside.hops c.self.inside.differing c.args.self.now c.is_empty.result c.self.invariant.told c.self.view_is c.is_empty.ensures
