use Rattle.router_moments.proofs.Common.{◌∙◌, ap, sym, subst, refl, flushed, answer_lines, router_links, HasStepped, Moment, Stands}
use Rattle.event_text.specs.declared.event.Event.TheVariants as events
use Rattle.event_text.specs.declared.event.Question.TheVariants as questions
use Rattle.router_moments.specs.Moments.{Gives}
use Rattle.router_moments.specs.Stands.{HaveReaders}
use Rattle.router_network.proofs.ShownRows.{ask_stepped}
use Rattle.router_moments.proofs.CoreLemmas.{readers_of}
use Rattle.router_network.proofs.network.Network.look_up.Goals as goal

pub ask-requires-clause-readers : goal.ask-requires-clause-readers
ask-requires-clause-readers g c = subst HaveReaders (sym c.prepare.ensures) (readers_of c.args.self.now c.requires.stands)

pub returns : goal.returns
returns g c =
    let m = c.prepare.new.self in
    let of = router_links m c.args.link in
    subst (λ (n : Moment). Gives (HasStepped n (events.Query (questions.Ask c.args.link c.args.p)) 0 m) c.args.journal.now c.flush.new.self) c.prepare.ensures
    (answer_lines c.args.link c.args.p of, c.in_ok-flush.ensures.ok ∙ ap flushed c.in_ok-ask.ensures, ask_stepped m c.args.link c.args.p of (subst Stands (sym c.prepare.ensures) c.requires.stands) refl)
