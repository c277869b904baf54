use Rattle.std.proofs.Common.{length, sym, ap, ◌∙◌}
use Rattle.std.specs.Cmp.{nat_cmp_total}
use Rattle.std.specs.FinMap.{len-entries}
use Rattle.link_change.proofs.MapLemmas.{entries_in}
use Rattle.nexthop_known.proofs.known.Known.known.Goals as goal

pub returns : goal.returns
returns g c = c.len.ensures.len ∙ ap length (entries_in nat_cmp_total c.self.inside.hops c.args.self.now c.len.ensures.ordered c.self.view_is) ∙ sym (len-entries c.args.self.now)
