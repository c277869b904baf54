use Rattle.router_moments.proofs.Common.{on_ok_weaker}
use Rattle.router.proofs.TextLemmas.{lent_said}
use Rattle.router.proofs.second.hear_second.Goals as goal

pub returns-clause-acts : goal.returns-clause-acts
returns-clause-acts c =
    on_ok_weaker c.hear-heard.result (λ g.
    lent_said _ c.args.journals.now c.lend.new.self c.in_ok-own.own c.hear-heard.new.journal c.take_back.new.self c.in_ok-own.ensures.lent c.in_ok-own.ensures.left g c.take_back.ensures) c.hear-heard.ensures.acts
