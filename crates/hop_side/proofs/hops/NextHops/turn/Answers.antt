use Rattle.std.proofs.Common.{ℕ, ◌∙◌, sym, ap, subst}
use Rattle.std.specs.FinMap.{from_entries}
use Rattle.std.specs.Ordering.{nat_cmp}
use Rattle.link_change.specs.declared.turn.Turn.TheVariants as turns
use Rattle.nexthop_resolver.specs.Registered.{KeepsOthers}
use Rattle.hop_side.specs.Resolvers.{Resolvers}
use Rattle.hop_side.specs.Steps.{ComesBelow}
use Rattle.hop_side.proofs.PutLemmas.{read_at, lent_put}
use Rattle.hop_side.proofs.StepLemmas.{on_err}
use Rattle.hop_side.proofs.TurnLemmas.{none_below, rests_below, quiet_below, sent_below}
use Rattle.hop_side.proofs.hops.NextHops.turn.Goals.{in-Nothing, in-Quiet, in-Sent+in_ok-push_change-in-Sent}
use Rattle.hop_side.proofs.hops.NextHops.turn.Goals as goal

pub returns-in_default-clause-taken : goal.returns-in_default-clause-taken
returns-in_default-clause-taken g c =
    let m = c.self.inside.resolvers in
    let a = c.args.self.now in
    let k = c.args.number in
    let upper = g.U.Upstream.rows c.args.upper.now in
    let candidates = g.U.Upstream.candidates c.args.upper.now in
    let same = ap (λ x. from_entries {R = nat_cmp} x.entries) c.get_mut.follows.holds-at-none ∙ c.self.view_is in
    subst (λ (x : Resolvers). ComesBelow k candidates upper c.args.register.now c.args.register.now a x c.args.journal.now c.args.journal.now turns.Nothing) (sym same)
    (none_below k candidates upper c.args.register.now a c.args.journal.now (sym (c.in_default.ensures.value ∙ read_at m a k c.self.view_is)))

pub unit-requires : goal.unit-requires
unit-requires g c = record { agrees = c.requires.agree c.args.number c.in-Some.resolver.now (sym (c.in-Some.ensures.value ∙ read_at c.self.inside.resolvers c.args.self.now c.args.number c.self.view_is)) }

pub returns-in_err-turn-clause-memory : goal.returns-in_err-turn-clause-memory
returns-in_err-turn-clause-memory g c =
    let at = sym (c.in-Some.ensures.value ∙ read_at c.self.inside.resolvers c.args.self.now c.args.number c.self.view_is) in
    on_err c.from_residual.result _ (subst (λ (n : ℕ). KeepsOthers n c.args.register.now c.unit.new.register) (c.requires.sound c.args.number c.in-Some.resolver.now at).client c.unit.ensures.others)

pub returns-clause-taken : goal.returns-clause-taken
returns-clause-taken g c =
    let m = c.self.inside.resolvers in
    let a = c.args.self.now in
    let k = c.args.number in
    let s = c.in-Some.resolver.now in
    let s' = c.unit.new.self in
    let upper = g.U.Upstream.rows c.args.upper.now in
    let candidates = g.U.Upstream.candidates c.args.upper.now in
    let was = c.args.register.now in
    let is = c.unit.new.register in
    let before = c.args.journal.now in
    let turn = c.in_ok-turn.turn in
    let taken = c.in_ok-turn.ensures.taken in
    let at = sym (c.in-Some.ensures.value ∙ read_at m a k c.self.view_is) in
    let put = sym (lent_put m (c.get_mut.follows.lender s') a k s s' c.self.view_is c.in-Some.ensures.value (c.get_mut.follows.holds s')) in
    elim c.match-turn.branch [
      | in-Nothing w ↦
          rw (w.result-is, w.journal-is)
          (subst (λ (x : Resolvers). ComesBelow k candidates upper was is a x before before turns.Nothing) put
          (rests_below candidates upper was is s s' a k at c.requires.sound turn taken c.requires.agree c.are_named.ensures c.unit.ensures.agrees c.unit.ensures.others c.known.ensures before w.in-Nothing.is))
      | in-Quiet w ↦
          rw (w.result-is, w.journal-is)
          (subst (λ (x : Resolvers). ComesBelow k candidates upper was is a x before before turns.Quiet) put
          (quiet_below candidates upper was is s s' a k at c.requires.sound turn taken c.requires.agree c.are_named.ensures c.unit.ensures.agrees c.unit.ensures.others c.known.ensures before w.in-Quiet.is))
      | in-Sent+in_ok-push_change-in-Sent w ↦
          rw (w.result-is, w.journal-is)
          (subst (λ (x : Resolvers). ComesBelow k candidates upper was is a x before w.push_change.new.self (turns.Sent w.in-Sent.change)) put
          (sent_below candidates upper was is s s' a k at c.requires.sound turn taken c.requires.agree c.are_named.ensures c.unit.ensures.agrees c.unit.ensures.others c.known.ensures before w.in-Sent.change w.push_change.new.self w.in-Sent.is
          w.in_ok-push_change-in-Sent.ensures))
    ]
