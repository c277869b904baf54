use Rattle.std.proofs.lemmas.Result.{IfOk-weaker}
use Rattle.router.proofs.RouterLemmas.{alone_idled, idle_may_second, both_idled}
use Rattle.router.proofs.router.Router.idle.Goals as goal

pub rest_second-requires-clause-admitted : goal.rest_second-requires-clause-admitted
rest_second-requires-clause-admitted c = idle_may_second c.args.self.now c.self.inside.first c.self.inside.second c.self.inside.failed c.self.view_is c.requires.stands c.in-Some.second c.in-Some.is

pub returns-in-None-clause-acts : goal.returns-in-None-clause-acts
returns-in-None-clause-acts c =
    IfOk-weaker c.step.result _ _ (λ turns g. alone_idled c.args.self.now c.self.inside.first c.self.inside.second c.self.inside.failed c.self.view_is c.requires.stands c.in-None.is c.step.new.core turns c.args.journals.now c.step.new.self c.known.ensures g) c.step.ensures.acts

pub returns-in_ok-flush-in-Some-clause-acts : goal.returns-in_ok-flush-in-Some-clause-acts
returns-in_ok-flush-in-Some-clause-acts c =
    both_idled c.args.self.now c.self.inside.first c.self.inside.second c.self.inside.failed c.self.view_is c.requires.stands c.in-Some.second c.in-Some.is c.rest.new.core c.rest_second.new.second c.in_ok-turns-in-Some.turns c.in_ok-turns6-in-Some.turns6 c.push_line.new.self c.rest.new.self c.rest_second.new.journals
    c.in_ok-turns-in-Some.ensures.acts c.in_ok-turns6-in-Some.ensures.acts c.in_ok-bound-in-Some.bound c.in_ok-bound6-in-Some.bound6 c.in_ok-plus-in-Some.field-0 c.in_ok-all-in-Some.all c.args.journals.now c.push_line-in-Some.new.self c.flush.new.self
    c.known.ensures c.in_ok-bound-in-Some.ensures c.in_ok-bound6-in-Some.ensures c.in_ok-plus-in-Some.ensures.sum c.in_ok-plus-in-Some.ensures.fits c.in_ok-push_line-in-Some.ensures c.in_ok-all-in-Some.ensures.sum c.in_ok-push_line-in-Some-2.ensures c.in_ok-flush-in-Some.ensures
