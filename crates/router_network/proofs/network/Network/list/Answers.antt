use Rattle.router_moments.proofs.Common.{sym, subst, refl, Shows, router_links, HasStepped, Moment, Stands}
use Rattle.event_text.specs.declared.event.Event.TheVariants as events
use Rattle.event_text.specs.declared.event.Question.TheVariants as questions
use Rattle.router_moments.specs.Moments.{Gives}
use Rattle.router_moments.specs.Stands.{HaveReaders}
use Rattle.router_moments.proofs.KeepLemmas.{gives_pushed}
use Rattle.router_network.proofs.ShownRows.{show_stepped}
use Rattle.router_moments.proofs.CoreLemmas.{readers_of}
use Rattle.router_network.proofs.network.Network.list.Goals as goal

pub show-requires-clause-readers : goal.show-requires-clause-readers
show-requires-clause-readers g c = subst HaveReaders (sym c.prepare.ensures) (readers_of c.args.self.now c.requires.stands)

pub returns : goal.returns
returns g c =
    let m = c.prepare.new.self in
    let link = c.args.link in
    subst (λ (n : Moment). Gives (HasStepped n (events.Query (questions.Show link)) 0 m) c.args.journal.now c.flush.new.self) c.prepare.ensures
    (gives_pushed (Shows link (router_links m link)) (HasStepped m (events.Query (questions.Show link)) 0 m)
    (λ said shows. show_stepped m link (router_links m link) said (subst Stands (sym c.prepare.ensures) c.requires.stands) refl shows)
    c.args.journal.now c.show.new.journal c.flush.new.self c.in_ok-show.ensures c.in_ok-flush.ensures.ok)
