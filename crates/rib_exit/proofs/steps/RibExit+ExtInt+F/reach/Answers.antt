use Rattle.std.proofs.Common.{List, take, ◌++◌, ◌∷◌, [], sym, ap, subst, ◌∙◌}
use Rattle.std.proofs.lemmas.List.{take_all, take_more}
use Rattle.register_interest.specs.Interests.{Interest}
use Rattle.rib_exit.proofs.ReachLemmas.{Reaching, reaching_first, reaching_own, reaching_other, reaches_exit}
use Rattle.rib_exit.proofs.steps.RibExit+ExtInt+F.reach.Goals.{then-own+in_ok-invalidate, else-own}
use Rattle.rib_exit.proofs.steps.RibExit+ExtInt+F.reach.Goals as goal

pub loop-interest-init : goal.loop-interest-init
loop-interest-init g c = reaching_first c.args.self.now c.requires.sound

pub loop-interest-preserved : goal.loop-interest-preserved
loop-interest-preserved g c =
    let out = c.args.reached.now in
    let n = c.loop-interest.interest-index in
    let i = c.interest-item.result in
    let a = c.args.self.now in
    let now = c.loop-interest.self in
    let more = sym (take_more out n i c.loop-interest-test.true ∙ ap (λ (x : Interest). take n out ++ x ∷ []) (sym c.interest-item.is)) in
    elim c.if-own.branch [
      | then-own+in_ok-invalidate w ↦
          rw w.self-is
          (subst (λ (l : List Interest). Reaching l a w.invalidate.new.self) more (reaching_own (take n out) i a now w.invalidate.new.self w.if-own.true c.loop-interest.invariant w.in_ok-invalidate.ensures.stale))
      | else-own w ↦ rw w.self-is (subst (λ (l : List Interest). Reaching l a now) more (reaching_other (take n out) i a now w.if-own.false c.loop-interest.invariant))
    ]

pub returns-clause-stale : goal.returns-clause-stale
returns-clause-stale g c =
    let out = c.args.reached.now in
    let a = c.args.self.now in
    let now = c.loop-interest.self in
    reaches_exit out a now c.requires.sound (subst (λ (l : List Interest). Reaching l a now) (take_all c.loop-interest.interest-index out c.loop-interest-test.false) c.loop-interest.invariant)
