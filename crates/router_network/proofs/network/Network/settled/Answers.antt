use Rattle.router_moments.proofs.Common.{sym, subst, HasStepped, Moment, Stands}
use Rattle.event_text.specs.declared.event.Event.TheVariants as events
use Rattle.event_text.specs.declared.event.Question.TheVariants as questions
use Rattle.router_moments.specs.Moments.{Gives}
use Rattle.router_moments.specs.Stands.{AllHaveExits}
use Rattle.router_network.proofs.StepLemmas.{settled}
use Rattle.router_network.specs.Informed.{Informed}
use Rattle.router_network.proofs.network.Network.settled.Goals as goal

pub returns : goal.returns
returns g c =
    let m = c.prepare.new.self in
    subst (λ (n : Moment). Gives (HasStepped n (events.Query (questions.Settled c.args.p)) 0 m) c.args.journal.now c.flush.new.self) c.prepare.ensures
    (settled m c.args.p c.first_held-held.result c.args.journal.now c.push_line.new.self c.flush.new.self (subst Stands (sym c.prepare.ensures) c.requires.stands) (subst AllHaveExits (sym c.prepare.ensures) c.requires.exits)
    c.the_first_task_tells.ensures c.first_held-held.ensures c.in_ok-push_line.ensures c.in_ok-flush.ensures.ok)

pub first_held-held-requires-clause-stands : goal.first_held-held-requires-clause-stands
first_held-held-requires-clause-stands g c = subst Stands (sym c.prepare.ensures) c.requires.stands

pub first_held-held-requires-clause-informed : goal.first_held-held-requires-clause-informed
first_held-held-requires-clause-informed g c = subst (Informed c.args.contests.now) (sym c.prepare.ensures) c.requires.informed
