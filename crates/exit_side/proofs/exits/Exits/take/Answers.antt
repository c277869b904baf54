use Rattle.std.proofs.Common.{IfOk, subst}
use Rattle.std.proofs.lemmas.Result.{on_err_weaker}
use Rattle.bgp_attr.specs.Routes.{Route}
use Rattle.fanout_queue.specs.Queues.{Queued, Takes}
use Rattle.exit_side.proofs.StrangerLemmas.{queue_is, with_after, unchanged}
use Rattle.exit_side.proofs.exits.Exits.take.Goals as goal

pub returns-clause-ok : goal.returns-clause-ok
returns-clause-ok g c =
    subst (λ (q : Queued Route). IfOk c.take.result (Takes q c.take.new.self c.args.reader.now))
    (queue_is c.self.inside.profile c.self.inside.queue c.take.new.self c.self.inside.chains c.args.self.now c.self.view_is) c.take.ensures.ok

pub returns-clause-after : goal.returns-clause-after
returns-clause-after g c = with_after c.self.inside.profile c.self.inside.queue c.take.new.self c.self.inside.chains c.args.self.now c.self.view_is

pub returns-clause-memory : goal.returns-clause-memory
returns-clause-memory g c =
    on_err_weaker c.take.result (unchanged c.self.inside.profile c.self.inside.queue c.take.new.self c.self.inside.chains c.args.self.now c.self.view_is) c.take.ensures.memory
