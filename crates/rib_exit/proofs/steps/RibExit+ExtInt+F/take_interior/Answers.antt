use Rattle.rib_exit.proofs.TurnLemmas.{follows_lent, takes_interior}
use Rattle.rib_exit.proofs.steps.RibExit+ExtInt+F.take_interior.Goals as goal

pub returns : goal.returns
returns g c =
    let e = c.args.self.now in
    let change = c.args.change.now in
    let follows = follows_lent e change c.in_ok-sent.sent (g.B.Reading.rows c.args.best.now) c.requires.stands c.in_ok-sent.ensures in
    takes_interior e change c.in_ok-sent.sent c.args.journal.now c.push_sent.new.self follows c.in_ok-push_sent.ensures
