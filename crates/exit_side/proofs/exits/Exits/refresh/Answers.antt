use Rattle.std.proofs.Common.{◌∙◌, refl, sym, ap}
use Rattle.std.specs.FinMap.{from_entries}
use Rattle.std.specs.Ordering.{nat_cmp}
use Rattle.exit_side.specs.Exits.{Exited}
use Rattle.exit_side.proofs.HeldLemmas.{held, held_lent, seen}
use Rattle.exit_side.proofs.RefreshLemmas.{refreshed_none, refreshed_some}
use Rattle.exit_side.proofs.exits.Exits.refresh.Goals as goal

pub returns-in_default : goal.returns-in_default
returns-in_default g c =
    let same = ap (λ x. record { profile = c.self.inside.profile; queue = c.self.inside.queue; chains = from_entries {R = nat_cmp} x.entries }) c.get_mut.follows.holds-at-none ∙ c.self.view_is in
    same ∙ refreshed_none c.args.self.now c.args.number (sym (c.in_default.ensures.value ∙ held c.self.inside.profile c.self.inside.queue c.self.inside.chains c.args.self.now c.self.view_is c.args.number))

pub returns : goal.returns
returns g c =
    let v : Exited = seen c.self.inside.profile c.self.inside.queue c.self.inside.chains in
    refreshed_some c.args.self.now v _ c.self.view_is c.args.number c.in-Some.chain.now c.refresh.new.self
    (sym (c.in-Some.ensures.value ∙ held c.self.inside.profile c.self.inside.queue c.self.inside.chains v refl c.args.number)) c.refresh.ensures
    (held_lent c.self.inside.profile c.self.inside.queue c.self.inside.queue c.self.inside.chains (c.get_mut.follows.lender c.refresh.new.self) c.args.number c.in-Some.chain.now c.refresh.new.self
    c.in-Some.ensures.value (c.get_mut.follows.holds c.refresh.new.self))
