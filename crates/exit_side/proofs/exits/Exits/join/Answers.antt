use Rattle.std.proofs.Common.{IfOk, ◌≡◌, None, subst}
use Rattle.std.specs.FinMap as tables
use Rattle.std.proofs.lemmas.Result.{on_err_weaker}
use Rattle.bgp_attr.specs.Routes.{Route}
use Rattle.fanout_queue.specs.Queues.{Queued, AllBelowRead}
use Rattle.exit_side.proofs.StrangerLemmas.{queue_is, joined, unchanged}
use Rattle.exit_side.proofs.exits.Exits.join.Goals as goal

pub returns-clause-fresh : goal.returns-clause-fresh
returns-clause-fresh g c =
    subst (λ (q : Queued Route). IfOk c.join_reader.result (λ reader. tables.get q reader ≡ None))
    (queue_is c.self.inside.profile c.self.inside.queue c.join_reader.new.self c.self.inside.chains c.args.self.now c.self.view_is) c.join_reader.ensures.fresh

pub returns-clause-least : goal.returns-clause-least
returns-clause-least g c =
    subst (λ (q : Queued Route). IfOk c.join_reader.result (AllBelowRead q))
    (queue_is c.self.inside.profile c.self.inside.queue c.join_reader.new.self c.self.inside.chains c.args.self.now c.self.view_is) c.join_reader.ensures.least

pub returns-clause-ok : goal.returns-clause-ok
returns-clause-ok g c = joined c.self.inside.profile c.self.inside.queue c.join_reader.new.self c.self.inside.chains c.args.self.now c.self.view_is c.join_reader.result c.join_reader.ensures.ok

pub returns-clause-memory : goal.returns-clause-memory
returns-clause-memory g c =
    on_err_weaker c.join_reader.result (unchanged c.self.inside.profile c.self.inside.queue c.join_reader.new.self c.self.inside.chains c.args.self.now c.self.view_is) c.join_reader.ensures.memory
