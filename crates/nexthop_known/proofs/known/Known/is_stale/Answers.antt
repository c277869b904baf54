use Rattle.std.proofs.Common.{ap, sym, ◌∙◌}
use Rattle.std.specs.Cmp.{nat_cmp_total}
use Rattle.link_change.proofs.MapLemmas.{read_in}
use Rattle.nexthop_known.specs.Hops.{is_stale_at}
use Rattle.nexthop_known.proofs.known.Known.is_stale.Goals as goal

pub returns-in-None : goal.returns-in-None
returns-in-None g c = let e = rw c.in-None.is at c.get.ensures.value in ap (λ o. is_stale_at o) (e ∙ sym (read_in nat_cmp_total c.self.inside.hops c.args.self.now c.args.hop c.self.view_is))

pub returns-in-Some : goal.returns-in-Some
returns-in-Some g c = let e = rw c.in-Some.is at c.get.ensures.value in c.is_stale.ensures ∙ ap (λ o. is_stale_at o) (e ∙ sym (read_in nat_cmp_total c.self.inside.hops c.args.self.now c.args.hop c.self.view_is))
