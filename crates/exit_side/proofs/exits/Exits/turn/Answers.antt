use Rattle.std.proofs.Common.{◌∙◌, refl, sym, ap, subst}
use Rattle.std.specs.FinMap.{from_entries}
use Rattle.std.specs.Ordering.{nat_cmp}
use Rattle.link_change.specs.declared.turn.Turn.TheVariants as turns
use Rattle.exit_side.specs.Exits.{Exited, IsExits, AllStand}
use Rattle.exit_side.specs.Steps.{ComesOut}
use Rattle.exit_side.proofs.HeldLemmas.{held, held_lent, seen}
use Rattle.exit_side.proofs.StepLemmas.{comes_none, comes_for, both_ok}
use Rattle.exit_side.proofs.exits.Exits.turn.Goals as goal

pub returns-in_default : goal.returns-in_default
returns-in_default g c =
    let same = ap (λ x. record { profile = c.self.inside.profile; queue = c.self.inside.queue; chains = from_entries {R = nat_cmp} x.entries }) c.get_mut.follows.holds-at-none ∙ c.self.view_is in
    subst (λ (x : Exited). ComesOut c.args.number (g.U.Upstream.candidates c.args.best.now) (g.U.Upstream.rows c.args.best.now) c.args.self.now x c.args.journal.now c.args.journal.now turns.Nothing) (sym same)
    (comes_none c.args.self.now c.args.number (g.U.Upstream.candidates c.args.best.now) (g.U.Upstream.rows c.args.best.now) c.args.journal.now
    (sym (c.in_default.ensures.value ∙ held c.self.inside.profile c.self.inside.queue c.self.inside.chains c.args.self.now c.self.view_is c.args.number)))

pub unit-requires : goal.unit-requires
unit-requires g c = record {
  stands = subst (AllStand (g.U.Upstream.rows c.args.best.now)) (sym c.self.view_is) c.requires.stand c.args.number c.in-Some.chain.now
      (sym (c.in-Some.ensures.value ∙ held c.self.inside.profile c.self.inside.queue c.self.inside.chains (seen c.self.inside.profile c.self.inside.queue c.self.inside.chains) refl c.args.number));
}

pub returns : goal.returns
returns g c =
    let v : Exited = seen c.self.inside.profile c.self.inside.queue c.self.inside.chains in
    let s' = c.unit.new.self in
    both_ok c.unit.result _ _ _
    (λ turn took stands.
    comes_for c.a_session_stands.ensures.others v c.args.number c.in-Some.chain.now s'
    (sym (c.in-Some.ensures.value ∙ held c.self.inside.profile c.self.inside.queue c.self.inside.chains v refl c.args.number)) (subst IsExits (sym c.self.view_is) c.requires.sound)
    c.unit.new.queue (g.U.Upstream.candidates c.args.best.now) (g.U.Upstream.rows c.args.best.now) (subst (AllStand (g.U.Upstream.rows c.args.best.now)) (sym c.self.view_is) c.requires.stand)
    c.unit.ensures.others c.args.self.now _ c.self.view_is
    (held_lent c.self.inside.profile c.self.inside.queue c.unit.new.queue c.self.inside.chains (c.get_mut.follows.lender s') c.args.number c.in-Some.chain.now s' c.in-Some.ensures.value (c.get_mut.follows.holds s'))
    turn c.args.journal.now c.unit.new.journal stands took)
    c.unit.ensures.taken c.unit.ensures.stands
