use Rattle.std.specs.FinMap.{nat_cmp-IsAntisymmetric}
use Rattle.std.specs.Cmp.{nat_cmp_total}
use Rattle.link_change.proofs.MapLemmas.{map_set}
use Rattle.nexthop_known.specs.Hops.{learnt}
use Rattle.nexthop_known.proofs.known.Known.learn.Goals as goal

pub returns-clause-ok : goal.returns-clause-ok
returns-clause-ok g c = map_set nat_cmp_total nat_cmp-IsAntisymmetric c.self.inside.hops c.put.new.hops c.args.self.now c.args.hop (learnt c.args.subnet c.args.answer) c.self.view_is c.in_ok-put.ensures.ok
