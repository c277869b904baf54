use Rattle.std.proofs.Common.{subst}
use Rattle.rib_split.specs.Splits.{Split}
use Rattle.rib_split.specs.Tables.{SplitsOn}
use Rattle.rib_exit.proofs.FallLemmas.{if_ok, agreed, takes_neither, takes_one, takes_both}
use Rattle.rib_exit.proofs.steps.RibExit+ExtInt+F.take_external.Goals as goal

pub returns-in-Neither-clause-taken : goal.returns-in-Neither-clause-taken
returns-in-Neither-clause-taken g c =
    let law = subst (λ (split : Split). SplitsOn c.args.self.now.splitter c.take_in.new.self c.args.change.now split) c.in-Neither.is c.take_in.ensures in
    takes_neither (g.I.Upstream.rows c.args.int.now) c.args.register.now c.args.self.now c.take_in.new.self c.args.change.now c.args.journal.now c.requires.sound c.requires.agree c.known.ensures law

pub returns-in-One-clause-taken : goal.returns-in-One-clause-taken
returns-in-One-clause-taken g c =
    let int = g.I.Upstream.rows c.args.int.now in
    let was = c.args.register.now in
    let is = c.pass-sent.new.register in
    let e = c.args.self.now in
    let s' = c.take_in.new.self in
    let hops' = c.pass-sent.new.hops in
    let change = c.args.change.now in
    let law = subst (λ (split : Split). SplitsOn e.splitter s' change split) c.in-One.is c.take_in.ensures in
    let kept = agreed int was is e s' hops' c.requires.sound c.pass-sent.ensures.client c.pass-sent.ensures.named c.pass-sent.ensures.agrees c.pass-sent.ensures.others c.known-in-One.ensures in
    if_ok c.pass-sent.result (λ sent passed. takes_one int was is e s' hops' change kept c.args.journal.now c.pass-sent.new.journal c.in-One.link c.in-One.change sent law passed)
    c.pass-sent.ensures.passed

pub returns-in-Moved-clause-taken : goal.returns-in-Moved-clause-taken
returns-in-Moved-clause-taken g c =
    let int = g.I.Upstream.rows c.args.int.now in
    let was = c.args.register.now in
    let is = c.pass_both-sent.new.register in
    let e = c.args.self.now in
    let s' = c.take_in.new.self in
    let hops' = c.pass_both-sent.new.hops in
    let change = c.args.change.now in
    let law = subst (λ (split : Split). SplitsOn e.splitter s' change split) c.in-Moved.is c.take_in.ensures in
    let kept = agreed int was is e s' hops' c.requires.sound c.pass_both-sent.ensures.client c.pass_both-sent.ensures.named c.pass_both-sent.ensures.agrees c.pass_both-sent.ensures.others c.known-in-Moved.ensures in
    if_ok c.pass_both-sent.result (λ sent passed. takes_both int was is e s' hops' change kept c.args.journal.now c.pass_both-sent.new.journal c.in-Moved.link c.in-Moved.add c.in-Moved.delete sent law passed)
    c.pass_both-sent.ensures.passed
