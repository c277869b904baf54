use Rattle.std.proofs.Common.{◌∙◌, refl, sym, ap, subst}
use Rattle.std.specs.FinMap.{from_entries}
use Rattle.std.specs.Ordering.{nat_cmp}
use Rattle.exit_side.specs.Exits.{Exited, IsExits}
use Rattle.exit_side.specs.Steps.{EditsExit}
use Rattle.exit_side.proofs.HeldLemmas.{held, held_lent, seen}
use Rattle.exit_side.proofs.StepLemmas.{edits_none, edits_for}
use Rattle.exit_side.proofs.exits.Exits.edit.Goals as goal

pub returns-in_default : goal.returns-in_default
returns-in_default g c =
    let same = ap (λ x. record { profile = c.self.inside.profile; queue = c.self.inside.queue; chains = from_entries {R = nat_cmp} x.entries }) c.get_mut.follows.holds-at-none ∙ c.self.view_is in
    subst (EditsExit c.args.number c.args.rules c.args.self.now) (sym same)
    (edits_none c.args.self.now c.args.number c.args.rules
    (sym (c.in_default.ensures.value ∙ held c.self.inside.profile c.self.inside.queue c.self.inside.chains c.args.self.now c.self.view_is c.args.number)) c.requires.sound)

pub returns : goal.returns
returns g c =
    let v : Exited = seen c.self.inside.profile c.self.inside.queue c.self.inside.chains in
    edits_for c.a_session_stands.ensures.others v c.args.number c.in-Some.chain.now c.edit.new.self
    (sym (c.in-Some.ensures.value ∙ held c.self.inside.profile c.self.inside.queue c.self.inside.chains v refl c.args.number)) (subst IsExits (sym c.self.view_is) c.requires.sound)
    c.args.rules c.edit.ensures.after c.edit.ensures.links c.edit.ensures.stands c.args.self.now _ c.self.view_is
    (held_lent c.self.inside.profile c.self.inside.queue c.self.inside.queue c.self.inside.chains (c.get_mut.follows.lender c.edit.new.self) c.args.number c.in-Some.chain.now c.edit.new.self
    c.in-Some.ensures.value (c.get_mut.follows.holds c.edit.new.self))
