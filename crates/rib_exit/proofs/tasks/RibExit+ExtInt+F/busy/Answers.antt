use Rattle.nexthop_resolver.specs.Kept.{same_way}
use Rattle.nexthop_resolver.proofs.AlikeLemmas.{tells_ways}
use Rattle.nexthop_resolver.proofs.LeftLemmas.{busy_is}
use Rattle.rib_exit.proofs.tasks.RibExit+ExtInt+F.busy.Goals as goal

pub returns : goal.returns
returns g c = busy_is same_way c.busy.result c.args.self.now.forwarding tells_ways c.busy.ensures
