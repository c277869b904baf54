use Rattle.std.proofs.Common.{ap, sym, ◌∙◌, Some}
use Rattle.std.specs.FinMap as map
use Rattle.std.specs.FinMap.{nat_cmp-IsAntisymmetric}
use Rattle.std.specs.Cmp.{nat_cmp_total}
use Rattle.link_change.proofs.MapLemmas.{read_in, map_set}
use Rattle.nexthop_known.specs.Hops.{in_force_or}
use Rattle.nexthop_known.proofs.known.Known.fresh.Goals as goal

pub returns-in-Ok-clause-ok : goal.returns-in-Ok-clause-ok
returns-in-Ok-clause-ok g c =
    map_set nat_cmp_total nat_cmp-IsAntisymmetric c.self.inside.hops c.put.new.hops c.args.self.now c.args.hop (record { in_force = c.in_force_or-in_force.result; fresh = c.args.answer; came = Some c.args.subnet }) c.self.view_is c.in-Ok.ensures.ok
    ∙ ap (λ a. map.insert c.args.self.now c.args.hop (record { in_force = a; fresh = c.args.answer; came = Some c.args.subnet })) (c.in_force_or-in_force.ensures ∙ ap (in_force_or c.args.answer) (sym (read_in nat_cmp_total c.self.inside.hops c.args.self.now c.args.hop c.self.view_is)))
