use Rattle.std.proofs.Common.{◌≡◌, ◌∙◌, ap}
use Rattle.std.proofs.lemmas.Result.{IfOk-weaker}
use Rattle.router.specs.Networks.{Routed}
use Rattle.router.specs.Told.{told}
use Rattle.router.specs.Codes.{told_so_far, told_then}
use Rattle.router.proofs.RouterLemmas.{alone_acted, both_acted_as, both_stood, told_may_step, told_step, tied_told, no_idle, on_ok}
use Rattle.router.proofs.router.Router.step_told.Goals as goal

pub returns-in_default-clause-acts : goal.returns-in_default-clause-acts
returns-in_default-clause-acts c =
    IfOk-weaker c.step.result _ _ (λ turns g.
    alone_acted c.args.self.now c.self.inside.first c.self.inside.second c.self.inside.failed c.self.view_is c.requires.stands c.in_default.is c.step.new.core turns c.args.journals.now c.step.new.self c.known.ensures c.args.event _ (no_idle c.args.event c.requires.other) g) c.step.ensures.acts

pub told_second-requires-clause-may : goal.told_second-requires-clause-may
told_second-requires-clause-may c =
    told_step c.args.self.now c.self.inside.first c.self.inside.second c.self.inside.failed c.self.view_is c.requires.stands c.in-Some.second c.in-Some.is c.args.event c.told_may_stand.ensures.may c.requires.admitted c.requires.formed c.told_then-told.result
    (told_may_step c.args.self.now c.self.inside.first c.self.inside.second c.self.inside.failed c.self.view_is c.requires.stands c.in-Some.second c.in-Some.is c.args.event c.told_may_stand.ensures.may c.requires.admitted c.requires.formed c.step-2.new.core c.told_then-told.result
    c.in_ok-turns.turns c.args.journals.now c.step-2.new.self c.declarations_follow.ensures c.told_may_stand.ensures.two c.in_ok-turns.ensures.acts
    (c.told_then-told.ensures ∙ (ap (λ d. told_then d c.in_ok-told.told) c.declared-2.ensures ∙ ap (told_then c.step-2.new.core.moment.declared) (c.in_ok-told.ensures ∙ ap (λ d. told_so_far d c.args.event) c.declared.ensures))))

pub returns-clause-acts : goal.returns-clause-acts
returns-clause-acts c =
    let is6 : c.told_then-told.result ≡ told c.self.inside.first.moment.declared c.args.event =
    told_may_step c.args.self.now c.self.inside.first c.self.inside.second c.self.inside.failed c.self.view_is c.requires.stands c.in-Some.second c.in-Some.is c.args.event c.told_may_stand.ensures.may c.requires.admitted c.requires.formed c.step-2.new.core c.told_then-told.result
    c.in_ok-turns.turns c.args.journals.now c.step-2.new.self c.declarations_follow.ensures c.told_may_stand.ensures.two c.in_ok-turns.ensures.acts
    (c.told_then-told.ensures ∙ (ap (λ d. told_then d c.in_ok-told.told) c.declared-2.ensures ∙ ap (told_then c.step-2.new.core.moment.declared) (c.in_ok-told.ensures ∙ ap (λ d. told_so_far d c.args.event) c.declared.ensures))) in
    IfOk-weaker c.plus.result _ _ (λ sum is_sum.
    both_acted_as c.args.self.now c.self.inside.first c.self.inside.second c.self.inside.failed c.self.view_is c.requires.stands c.in-Some.second c.in-Some.is c.step-2.new.core c.told_second.new.second c.args.event c.told_then-told.result
    c.in_ok-turns.turns c.in_ok-turns6.turns6 c.args.journals.now c.step-2.new.self c.told_second.new.journals c.in_ok-turns.ensures.acts c.in_ok-turns6.ensures.acts
    (told c.args.self.now.first.moment.declared c.args.event) (is6 ∙ ap (λ (r : Routed). told r.first.moment.declared c.args.event) c.self.view_is) sum c.known.ensures (no_idle c.args.event c.requires.other) is_sum) c.plus.ensures.sum

pub returns-clause-stands : goal.returns-clause-stands
returns-clause-stands c =
    let is6 : c.told_then-told.result ≡ told c.self.inside.first.moment.declared c.args.event =
    told_may_step c.args.self.now c.self.inside.first c.self.inside.second c.self.inside.failed c.self.view_is c.requires.stands c.in-Some.second c.in-Some.is c.args.event c.told_may_stand.ensures.may c.requires.admitted c.requires.formed c.step-2.new.core c.told_then-told.result
    c.in_ok-turns.turns c.args.journals.now c.step-2.new.self c.declarations_follow.ensures c.told_may_stand.ensures.two c.in_ok-turns.ensures.acts
    (c.told_then-told.ensures ∙ (ap (λ d. told_then d c.in_ok-told.told) c.declared-2.ensures ∙ ap (told_then c.step-2.new.core.moment.declared) (c.in_ok-told.ensures ∙ ap (λ d. told_so_far d c.args.event) c.declared.ensures))) in
    on_ok c.plus.result
    (both_stood c.args.self.now c.self.inside.first c.self.inside.second c.self.inside.failed c.self.view_is c.requires.stands c.in-Some.second c.in-Some.is c.step-2.new.core c.told_second.new.second c.args.event c.told_then-told.result
    c.in_ok-turns.turns c.in_ok-turns6.turns6 c.args.journals.now c.step-2.new.self c.told_second.new.journals c.in_ok-turns.ensures.acts c.in_ok-turns6.ensures.acts c.declarations_follow.ensures c.in_ok-turns.ensures.stands c.in_ok-turns6.ensures.stands
    c.in_ok-turns.ensures.events c.in_ok-turns6.ensures.events
    (tied_told c.args.self.now c.self.inside.first c.self.inside.second c.self.inside.failed c.self.view_is c.requires.stands c.in-Some.second c.in-Some.is c.args.event c.told_may_stand.ensures.may c.requires.admitted c.requires.formed c.told_then-told.result is6))
