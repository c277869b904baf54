use Rattle.router_moments.proofs.Common.{sym, subst, IsTree, IsFull, Moment, TakesTurn}
use Rattle.std.proofs.Common.{IfOk, Some, None, ap}
use Rattle.router_moments.proofs.Common.{sent_of}
use Rattle.journal_text.specs.declared.link.Task.TheVariants as tasks
use Rattle.router_network.specs.contracts.network.Network.{the_view}
use Rattle.router_moments.proofs.StandLemmas.{may_follow}
use Rattle.router_moments.proofs.RouteTurns.{quiet_since, sent_since, route_quiet, route_sent}
use Rattle.router_network.proofs.KnownRows.{tree_turned}
use Rattle.router_network.proofs.network.Network.turn_route.Goals as goal

pub unit-requires-clause-tree : goal.unit-requires-clause-tree
unit-requires-clause-tree g c = subst (λ (m : Moment). IsTree m.tree) (sym c.self.view_is) c.requires.stands.interior.tree

pub unit-requires-clause-full : goal.unit-requires-clause-full
unit-requires-clause-full g c = subst (λ (m : Moment). IsFull m.tree) (sym c.self.view_is) c.requires.stands.interior.full

pub turned-requires-clause-follow : goal.turned-requires-clause-follow
turned-requires-clause-follow g c = may_follow c.args.self.now _ c.unit.new.self c.self.view_is c.requires.stands
    (quiet_since c.args.self.now _ c.args.proto c.args.loss c.in_ok-unit.field-0 c.unit.new.self c.args.journal.now c.unit.new.journal c.self.view_is c.requires.stands c.in-Quiet.is c.in_ok-unit.ensures.taken)

pub turned-requires-in-Sent-clause-follow : goal.turned-requires-in-Sent-clause-follow
turned-requires-in-Sent-clause-follow g c = may_follow c.args.self.now _ c.unit.new.self c.self.view_is c.requires.stands
    (sent_since c.args.self.now _ c.args.proto c.args.loss c.in_ok-unit.field-0 c.in-Sent.change c.unit.new.self c.args.journal.now c.unit.new.journal c.self.view_is c.requires.stands c.in-Sent.is c.in_ok-unit.ensures.taken)

pub returns-in-Quiet-clause-taken : goal.returns-in-Quiet-clause-taken
returns-in-Quiet-clause-taken g c =
    let old : Moment = the_view g.row.F g.F.Family g.F.Clone c.self.inside in
    subst (λ (m : Moment). IfOk c.turned.result (TakesTurn (tasks.Rdel c.args.proto c.args.loss) m c.turned.new.self c.args.journal.now c.turned.new.journal)) c.self.view_is
    (route_quiet old c.args.proto c.args.loss c.in_ok-unit.field-0 c.unit.new.self c.turned.new.self c.args.journal.now c.unit.new.journal c.turned.new.journal c.turned.result
    c.in-Quiet.is c.in_ok-unit.ensures.taken c.turned.ensures.turned)

pub returns-in-Sent-clause-taken : goal.returns-in-Sent-clause-taken
returns-in-Sent-clause-taken g c =
    let old : Moment = the_view g.row.F g.F.Family g.F.Clone c.self.inside in
    subst (λ (m : Moment). IfOk c.turned-in-Sent.result (TakesTurn (tasks.Rdel c.args.proto c.args.loss) m c.turned-in-Sent.new.self c.args.journal.now c.turned-in-Sent.new.journal)) c.self.view_is
    (route_sent old c.args.proto c.args.loss c.in_ok-unit.field-0 c.in-Sent.change c.unit.new.self c.turned-in-Sent.new.self c.args.journal.now c.unit.new.journal
    c.turned-in-Sent.new.journal c.turned-in-Sent.result c.in-Sent.is c.in_ok-unit.ensures.taken c.turned-in-Sent.ensures.turned)

pub turned-requires-clause-informed : goal.turned-requires-clause-informed
turned-requires-clause-informed g c = tree_turned c.args.proto c.args.loss c.args.contests.now c.args.self.now _ c.unit.new.self c.in_ok-unit.field-0 None c.args.journal.now c.unit.new.journal (λ e. cc) c.self.view_is c.requires.stands (ap sent_of (sym c.in-Quiet.is)) c.in_ok-unit.ensures.taken c.requires.informed

pub turned-requires-in-Sent-clause-informed : goal.turned-requires-in-Sent-clause-informed
turned-requires-in-Sent-clause-informed g c = tree_turned c.args.proto c.args.loss c.args.contests.now c.args.self.now _ c.unit.new.self c.in_ok-unit.field-0 (Some c.in-Sent.change) c.args.journal.now c.unit.new.journal (λ e. cc) c.self.view_is c.requires.stands (ap sent_of (sym c.in-Sent.is)) c.in_ok-unit.ensures.taken c.requires.informed
