use Rattle.std.proofs.Common.{◌≡◌, true, false, sym, ◌∙◌, refl}
use Rattle.std.proofs.lemmas.Result.{IfOk-weaker}
use Rattle.router.proofs.AloneLemmas.{second_is_spoken, nothing_may}
use Rattle.router.proofs.RouterLemmas.{alone_now, of_first, both_acted, both_stood, second_may_step, tied_alone, on_ok}
use Rattle.router.proofs.router.Router.step_second.Goals as goal

pub unreachable-requires : goal.unreachable-requires
unreachable-requires c =
    let alone = alone_now c.args.self.now c.self.inside.first c.self.inside.second c.self.inside.failed c.self.view_is c.requires.stands c.in_default.is in
    let spoken = second_is_spoken c.args.self.now.first.moment.declared c.args.event c.requires.admitted in
    let spoken_now = of_first c.args.self.now c.self.inside.first c.self.inside.second c.self.inside.failed c.self.view_is c.requires.stands (λ x. x.moment.declared.profile.v6 ≡ true) spoken in
    let clash : true ≡ false = sym spoken_now ∙ alone.behind in cc

pub step-requires-clause-admitted : goal.step-requires-clause-admitted
step-requires-clause-admitted c = nothing_may c.self.inside.first.moment.declared

pub told_second-requires-clause-may : goal.told_second-requires-clause-may
told_second-requires-clause-may c =
    second_may_step c.args.self.now c.self.inside.first c.self.inside.second c.self.inside.failed c.self.view_is c.requires.stands c.in-Some.second c.in-Some.is c.args.event c.second_may_stand.ensures c.requires.admitted c.requires.said

pub returns-clause-acts : goal.returns-clause-acts
returns-clause-acts c =
    IfOk-weaker c.plus.result _ _ (λ sum is_sum.
    both_acted c.args.self.now c.self.inside.first c.self.inside.second c.self.inside.failed c.self.view_is c.requires.stands c.in-Some.second c.in-Some.is c.step.new.core c.told_second.new.second _ c.args.event
    c.in_ok-turns.turns c.in_ok-turns6.turns6 c.args.journals.now c.step.new.self c.told_second.new.journals c.in_ok-turns.ensures.acts c.in_ok-turns6.ensures.acts sum c.known.ensures refl is_sum) c.plus.ensures.sum

pub returns-clause-stands : goal.returns-clause-stands
returns-clause-stands c =
    on_ok c.plus.result
    (both_stood c.args.self.now c.self.inside.first c.self.inside.second c.self.inside.failed c.self.view_is c.requires.stands c.in-Some.second c.in-Some.is c.step.new.core c.told_second.new.second _ c.args.event
    c.in_ok-turns.turns c.in_ok-turns6.turns6 c.args.journals.now c.step.new.self c.told_second.new.journals c.in_ok-turns.ensures.acts c.in_ok-turns6.ensures.acts c.declarations_follow.ensures c.in_ok-turns.ensures.stands c.in_ok-turns6.ensures.stands
    c.in_ok-turns.ensures.events c.in_ok-turns6.ensures.events
    (tied_alone c.args.self.now c.self.inside.first c.self.inside.second c.self.inside.failed c.self.view_is c.requires.stands c.in-Some.second c.in-Some.is c.args.event c.second_may_stand.ensures c.requires.admitted c.requires.said))
