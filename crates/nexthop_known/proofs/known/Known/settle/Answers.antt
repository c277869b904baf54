use Rattle.nexthop_known.specs.Hops.{settled}
use Rattle.nexthop_known.proofs.KnownLemmas.{mapped}
use Rattle.nexthop_known.proofs.known.Known.settle.Goals as goal

pub returns : goal.returns
returns g c = mapped settled c.self.inside.hops c.put_all_in_force.new.hops c.args.self.now c.self.view_is c.put_all_in_force.ensures.mapped
