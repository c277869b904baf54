use Rattle.rib_exit.proofs.TurnLemmas.{takes_lent, rests_out, quiet_out, sent_out}
use Rattle.rib_exit.proofs.steps.RibExit+ExtInt+F.turn.Goals as goal

pub returns-in-Nothing-clause-taken : goal.returns-in-Nothing-clause-taken
returns-in-Nothing-clause-taken g c =
    let int = g.I.Upstream.rows c.args.int.now in
    let was = c.args.register.now in
    let is = c.unit.new.register in
    let e = c.args.self.now in
    let hops' = c.unit.new.self in
    let turn = c.in_ok-turn.turn in
    let t = takes_lent int was is e hops' turn (g.B.Reading.rows c.args.best.now) c.requires.stands c.in_ok-turn.ensures.taken in
    rests_out int was is e hops' c.requires.sound c.are_named.ensures c.unit.ensures.agrees c.unit.ensures.others c.known.ensures c.args.journal.now turn t c.in-Nothing.is

pub returns-in-Quiet-clause-taken : goal.returns-in-Quiet-clause-taken
returns-in-Quiet-clause-taken g c =
    let int = g.I.Upstream.rows c.args.int.now in
    let was = c.args.register.now in
    let is = c.unit.new.register in
    let e = c.args.self.now in
    let hops' = c.unit.new.self in
    let turn = c.in_ok-turn.turn in
    let t = takes_lent int was is e hops' turn (g.B.Reading.rows c.args.best.now) c.requires.stands c.in_ok-turn.ensures.taken in
    quiet_out int was is e hops' c.requires.sound c.are_named.ensures c.unit.ensures.agrees c.unit.ensures.others c.known.ensures c.args.journal.now turn t c.in-Quiet.is

pub returns-in_ok-push_change-in-Sent-clause-taken : goal.returns-in_ok-push_change-in-Sent-clause-taken
returns-in_ok-push_change-in-Sent-clause-taken g c =
    let int = g.I.Upstream.rows c.args.int.now in
    let was = c.args.register.now in
    let is = c.unit.new.register in
    let e = c.args.self.now in
    let hops' = c.unit.new.self in
    let turn = c.in_ok-turn.turn in
    let t = takes_lent int was is e hops' turn (g.B.Reading.rows c.args.best.now) c.requires.stands c.in_ok-turn.ensures.taken in
    sent_out int was is e hops' c.requires.sound c.are_named.ensures c.unit.ensures.agrees c.unit.ensures.others c.known.ensures c.args.journal.now turn t c.in-Sent.change c.push_change.new.self c.in-Sent.is
    c.in_ok-push_change-in-Sent.ensures
