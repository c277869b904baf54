use Rattle.std.proofs.Common.{◌∙◌, false, refl, sym, ap, subst}
use Rattle.std.proofs.lemmas.Result.{IfOk-weaker}
use Rattle.std.specs.FinMap.{from_entries}
use Rattle.std.specs.Ordering.{nat_cmp}
use Rattle.exit_side.specs.Exits.{Exited, AreOutChains}
use Rattle.exit_side.specs.Steps.{ComesAgain}
use Rattle.exit_side.proofs.HeldLemmas.{held, held_lent, seen}
use Rattle.exit_side.proofs.RefreshLemmas.{resent_none, resent_some}
use Rattle.exit_side.proofs.exits.Exits.resend.Goals as goal

pub returns-in_default : goal.returns-in_default
returns-in_default g c =
    let same = ap (λ x. record { profile = c.self.inside.profile; queue = c.self.inside.queue; chains = from_entries {R = nat_cmp} x.entries }) c.get_mut.follows.holds-at-none ∙ c.self.view_is in
    subst (λ (x : Exited). ComesAgain c.args.number c.args.self.now x c.args.journal.now c.args.journal.now false) (sym same)
    (resent_none c.args.self.now c.args.number c.args.journal.now (sym (c.in_default.ensures.value ∙ held c.self.inside.profile c.self.inside.queue c.self.inside.chains c.args.self.now c.self.view_is c.args.number)))

pub resend-requires : goal.resend-requires
resend-requires g c = record {
  chain = subst AreOutChains (sym c.self.view_is) c.requires.chains c.args.number c.in-Some.chain.now
      (sym (c.in-Some.ensures.value ∙ held c.self.inside.profile c.self.inside.queue c.self.inside.chains (seen c.self.inside.profile c.self.inside.queue c.self.inside.chains) refl c.args.number));
}

pub returns : goal.returns
returns g c =
    let v : Exited = seen c.self.inside.profile c.self.inside.queue c.self.inside.chains in
    IfOk-weaker c.resend.result _ _
    (λ on is.
    resent_some c.args.self.now v _ c.self.view_is c.args.number c.in-Some.chain.now c.resend.new.self
    (sym (c.in-Some.ensures.value ∙ held c.self.inside.profile c.self.inside.queue c.self.inside.chains v refl c.args.number))
    (held_lent c.self.inside.profile c.self.inside.queue c.self.inside.queue c.self.inside.chains (c.get_mut.follows.lender c.resend.new.self) c.args.number c.in-Some.chain.now c.resend.new.self
    c.in-Some.ensures.value (c.get_mut.follows.holds c.resend.new.self)) on c.args.journal.now c.resend.new.journal is)
    c.resend.ensures
