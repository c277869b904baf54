use Rattle.std.proofs.lemmas.Result.{IfOk-weaker}
use Rattle.router.proofs.TextLemmas.{lent_said}
use Rattle.router.proofs.second.rest_second.Goals as goal

pub returns-clause-acts : goal.returns-clause-acts
returns-clause-acts c =
    IfOk-weaker c.rest-rested.result _ _ (λ turns g.
    lent_said _ c.args.journals.now c.lend.new.self c.in_ok-own.own c.rest-rested.new.journal c.take_back.new.self c.in_ok-own.ensures.lent c.in_ok-own.ensures.left g c.take_back.ensures) c.rest-rested.ensures.acts
