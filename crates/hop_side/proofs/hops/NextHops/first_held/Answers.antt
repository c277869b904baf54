use Rattle.std.proofs.Common.{◌∙◌}
use Rattle.std.specs.Cmp.{nat_cmp_total}
use Rattle.link_change.proofs.MapLemmas.{entries_in}
use Rattle.hop_side.proofs.TaskLemmas.{first_that_lags}
use Rattle.hop_side.proofs.hops.NextHops.first_held.Goals as goal

pub returns : goal.returns
returns g c =
    let m = c.self.inside.resolvers in
    c.first_lagging.ensures.first ∙ first_that_lags (g.U.Named.rows c.args.uppers.now) c.args.p c.args.self.now m.entries (entries_in nat_cmp_total m c.args.self.now c.first_lagging.ensures.ordered c.self.view_is)
