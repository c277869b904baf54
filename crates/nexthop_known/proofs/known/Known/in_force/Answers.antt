use Rattle.std.proofs.Common.{ap, sym, ◌∙◌, Some}
use Rattle.std.specs.Option.{option_map}
use Rattle.std.specs.Cmp.{nat_cmp_total}
use Rattle.link_change.proofs.MapLemmas.{read_in}
use Rattle.nexthop_known.proofs.known.Known.in_force.Goals as goal

pub returns-in-None : goal.returns-in-None
returns-in-None g c = let e = rw c.in-None.is at c.get.ensures.value in ap (λ o. option_map (λ h. h.in_force) o) (e ∙ sym (read_in nat_cmp_total c.self.inside.hops c.args.self.now c.args.hop c.self.view_is))

pub returns-in-Some : goal.returns-in-Some
returns-in-Some g c = let e = rw c.in-Some.is at c.get.ensures.value in ap Some c.in_force_of.ensures ∙ ap (λ o. option_map (λ h. h.in_force) o) (e ∙ sym (read_in nat_cmp_total c.self.inside.hops c.args.self.now c.args.hop c.self.view_is))
