use Rattle.std.proofs.lemmas.Result.{IfOk-weaker}
use Rattle.out_chain.proofs.PassLemmas.{first_may_be_heard, rows_may_be_heard, others_keep, reads_a_change, walks_a_turn, still_stands}
use Rattle.out_chain.proofs.chain.OutChain.unit.Goals as goal

pub pass_on-requires-clause-heard : goal.pass_on-requires-clause-heard
pass_on-requires-clause-heard g c =
    first_may_be_heard c.args.self.now _ c.self.view_is c.take.new.reader c.in_ok-change.ensures.same c.args.queue.now c.take.new.self c.in_ok-change.field-0 c.in_ok-change.ensures.ok c.in-Some.change c.in-Some.is c.requires.stands.unread

pub returns-in_err-sent-in-Some-clause-others : goal.returns-in_err-sent-in-Some-clause-others
returns-in_err-sent-in-Some-clause-others g c =
    others_keep c.args.self.now _ c.self.view_is c.take.new.reader c.in_ok-change.ensures.same c.args.queue.now c.take.new.self c.in_ok-change.field-0 c.in_ok-change.ensures.ok

pub walk-requires-clause-heard : goal.walk-requires-clause-heard
walk-requires-clause-heard g c =
    rows_may_be_heard c.args.self.now _ c.self.view_is c.take.new.reader c.in_ok-change.ensures.same c.args.queue.now c.take.new.self c.in_ok-change.field-0 c.in_ok-change.ensures.ok (g.U.Upstream.rows c.args.best.now) c.requires.stands.heard

pub returns-in_ok-sent-in-Some-clause-taken : goal.returns-in_ok-sent-in-Some-clause-taken
returns-in_ok-sent-in-Some-clause-taken g c =
    reads_a_change c.args.self.now _ c.self.view_is c.take.new.reader c.in_ok-change.ensures.same c.args.queue.now c.take.new.self c.in_ok-change.field-0 c.in_ok-change.ensures.ok
    c.pass_on.new.self (g.U.Upstream.candidates c.args.best.now) (g.U.Upstream.rows c.args.best.now) c.args.journal.now c.pass_on.new.journal c.requires.stands
    c.in-Some.change c.in_ok-sent-in-Some.sent c.taken.result c.in-Some.is c.in_ok-sent-in-Some.ensures c.taken.ensures

pub returns-in_ok-sent-in-Some-clause-others : goal.returns-in_ok-sent-in-Some-clause-others
returns-in_ok-sent-in-Some-clause-others g c =
    others_keep c.args.self.now _ c.self.view_is c.take.new.reader c.in_ok-change.ensures.same c.args.queue.now c.take.new.self c.in_ok-change.field-0 c.in_ok-change.ensures.ok

pub returns-in_ok-sent-in-Some-clause-stands : goal.returns-in_ok-sent-in-Some-clause-stands
returns-in_ok-sent-in-Some-clause-stands g c =
    still_stands c.args.self.now _ c.self.view_is c.take.new.reader c.in_ok-change.ensures.same c.args.queue.now c.take.new.self c.in_ok-change.field-0 c.in_ok-change.ensures.ok
    c.pass_on.new.self (g.U.Upstream.candidates c.args.best.now) (g.U.Upstream.rows c.args.best.now) c.args.journal.now c.pass_on.new.journal c.requires.stands c.taken.result (returns-in_ok-sent-in-Some-clause-taken g c)

pub returns-in-None-clause-taken : goal.returns-in-None-clause-taken
returns-in-None-clause-taken g c =
    IfOk-weaker c.walk.result _ _
    (λ turn walks.
    walks_a_turn c.args.self.now _ c.self.view_is c.take.new.reader c.in_ok-change.ensures.same c.args.queue.now c.take.new.self c.in_ok-change.field-0 c.in_ok-change.ensures.ok
    c.walk.new.self (g.U.Upstream.candidates c.args.best.now) (g.U.Upstream.rows c.args.best.now) c.args.journal.now c.walk.new.journal c.requires.stands turn c.in-None.is walks)
    c.walk.ensures

pub returns-in-None-clause-stands : goal.returns-in-None-clause-stands
returns-in-None-clause-stands g c =
    IfOk-weaker c.walk.result _ _
    (λ turn is.
    still_stands c.args.self.now _ c.self.view_is c.take.new.reader c.in_ok-change.ensures.same c.args.queue.now c.take.new.self c.in_ok-change.field-0 c.in_ok-change.ensures.ok
    c.walk.new.self (g.U.Upstream.candidates c.args.best.now) (g.U.Upstream.rows c.args.best.now) c.args.journal.now c.walk.new.journal c.requires.stands turn is)
    (returns-in-None-clause-taken g c)
