use Rattle.std.proofs.Common.{◌∙◌}
use Rattle.std.specs.Cmp.{nat_cmp_total}
use Rattle.link_change.proofs.MapLemmas.{entries_in}
use Rattle.hop_side.proofs.TaskLemmas.{first_with_work, none_left}
use Rattle.hop_side.proofs.hops.NextHops.first_busy.Goals as goal

pub returns-clause-first : goal.returns-clause-first
returns-clause-first g c =
    let m = c.self.inside.resolvers in
    c.first_of.ensures.first ∙ first_with_work c.args.self.now m.entries (entries_in nat_cmp_total m c.args.self.now c.first_of.ensures.ordered c.self.view_is)

pub returns-clause-none : goal.returns-clause-none
returns-clause-none g c =
    let m = c.self.inside.resolvers in
    none_left c.args.self.now m.entries c.first_of.result (entries_in nat_cmp_total m c.args.self.now c.first_of.ensures.ordered c.self.view_is) c.first_of.ensures.first
