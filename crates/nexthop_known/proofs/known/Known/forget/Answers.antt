use Rattle.std.proofs.Common.{Option, subst, ◌∙◌}
use Rattle.std.specs.FinMap.{nat_cmp-IsAntisymmetric}
use Rattle.std.specs.Cmp.{nat_cmp_total}
use Rattle.addr4.specs.Prefixes.{AddressPrefix}
use Rattle.link_change.proofs.MapLemmas.{map_removed}
use Rattle.nexthop_known.specs.Ties.{IsFreed}
use Rattle.nexthop_known.proofs.KnownLemmas.{freed, came_of_known}
use Rattle.nexthop_known.proofs.known.Known.forget.Goals as goal

pub returns-clause-removed : goal.returns-clause-removed
returns-clause-removed g c = map_removed nat_cmp_total nat_cmp-IsAntisymmetric c.self.inside.hops c.take_out-came.new.hops c.args.self.now c.args.hop c.self.view_is c.take_out-came.ensures.removed

pub returns-clause-answer : goal.returns-clause-answer
returns-clause-answer g c = λ h e.
    freed c.take_out-came.new.hops c.take_out-came.new.stale c.take_out-came.new.held h.came c.unshared.result c.take_out-came.ensures.tied
    (subst (λ (x : Option AddressPrefix). IsFreed c.take_out-came.new.held x c.unshared.result) (c.take_out-came.ensures.came ∙ came_of_known c.self.inside.hops c.args.self.now c.args.hop h c.self.view_is e) c.unshared.ensures)
