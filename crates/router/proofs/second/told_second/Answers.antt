use Rattle.std.proofs.lemmas.Result.{IfOk-weaker}
use Rattle.router.proofs.TextLemmas.{lent_said}
use Rattle.router.proofs.second.told_second.Goals as goal

pub returns-clause-acts : goal.returns-clause-acts
returns-clause-acts c =
    IfOk-weaker c.step-stepped.result _ _ (λ turns g.
    lent_said _ c.args.journals.now c.lend.new.self c.in_ok-own.own c.step-stepped.new.journal c.take_back.new.self c.in_ok-own.ensures.lent c.in_ok-own.ensures.left g c.take_back.ensures) c.step-stepped.ensures.acts
