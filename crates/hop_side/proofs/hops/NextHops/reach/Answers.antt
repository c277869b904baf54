use Rattle.std.proofs.Common.{List, take, ◌++◌, ◌∷◌, [], sym, ap, subst, ◌∙◌}
use Rattle.std.proofs.lemmas.List.{take_all, take_more}
use Rattle.register_interest.specs.Interests.{Interest}
use Rattle.hop_side.specs.Steps.{AllReached}
use Rattle.hop_side.proofs.ReachLemmas.{none_reached, one_more_reached, same_peers, reaches_below}
use Rattle.hop_side.proofs.StepLemmas.{on_err}
use Rattle.hop_side.proofs.hops.NextHops.reach.Goals as goal

pub loop-interest-init : goal.loop-interest-init
loop-interest-init g c = none_reached c.args.self.now

pub loop-interest-preserved : goal.loop-interest-preserved
loop-interest-preserved g c =
    let out = c.args.reached.now in
    let n = c.loop-interest.interest-index in
    let i = c.interest-item.result in
    subst (λ (l : List Interest). AllReached l c.args.self.now c.reach_one.new.self)
    (sym (take_more out n i c.loop-interest-test.true ∙ ap (λ (x : Interest). take n out ++ x ∷ []) (sym c.interest-item.is)))
    (one_more_reached (take n out) i c.args.self.now c.loop-interest.self c.reach_one.new.self c.loop-interest.invariant c.in_ok-reach_one.ensures.stale)

pub returns-in_err-reach_one-clause-memory : goal.returns-in_err-reach_one-clause-memory
returns-in_err-reach_one-clause-memory g c =
    on_err c.from_residual.result _ (same_peers (take c.loop-interest.interest-index c.args.reached.now) c.args.self.now c.loop-interest.self c.reach_one.new.self c.loop-interest.invariant c.in_err-reach_one.ensures.memory)

pub returns-clause-stale : goal.returns-clause-stale
returns-clause-stale g c =
    let out = c.args.reached.now in
    let a = c.args.self.now in
    let b = c.loop-interest.self in
    reaches_below out a b (subst (λ (l : List Interest). AllReached l a b) (take_all c.loop-interest.interest-index out c.loop-interest-test.false) c.loop-interest.invariant) c.requires.sound
