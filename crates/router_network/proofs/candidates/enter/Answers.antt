use Rattle.router_moments.proofs.Common.{on_ok_weaker}
use Rattle.router_network.proofs.Counting.{one_was, none_is, entered, entered_known, on_ok_both}
use Rattle.router_network.proofs.candidates.enter.Goals as goal
use Rattle.router_network.proofs.candidates.enter.Goals.{then-had-via-then-had, then-had-via-else-had+then-not-has}

pub returns-clause-counts : goal.returns-clause-counts
returns-clause-counts g c = on_ok_weaker c.note.result (entered c.args.contests.now c.note.new.self c.args.prefix c.args.had c.args.has c.if-had.false c.if-not-has.false) c.note.ensures.counts

pub returns-clause-known : goal.returns-clause-known
returns-clause-known g c = on_ok_both c.note.result (entered_known c.args.contests.now c.note.new.self c.args.prefix c.args.had c.args.has c.if-had.false c.if-not-has.false c.requires) c.note.ensures.counts c.note.ensures.known

pub returns-then-had-clause-counts : goal.returns-then-had-clause-counts
returns-then-had-clause-counts g c =
    λ k before now s.
    elim c.then-had.branch [
      | then-had-via-then-had w ↦ one_was c.args.contests.now c.args.prefix c.args.had c.args.has k before now s w.if-had.true
      | then-had-via-else-had+then-not-has w ↦ none_is c.args.contests.now c.args.prefix c.args.had c.args.has k before now s w.if-not-has.true
    ]
