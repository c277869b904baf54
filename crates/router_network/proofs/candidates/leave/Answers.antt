use Rattle.router_moments.proofs.Common.{on_ok_weaker}
use Rattle.router_network.proofs.Counting.{one_is, none_was, left}
use Rattle.router_network.proofs.candidates.leave.Goals as goal
use Rattle.router_network.proofs.candidates.leave.Goals.{then-has-via-then-has, then-has-via-else-has+then-not-had}

pub returns-clause-counts : goal.returns-clause-counts
returns-clause-counts g c = on_ok_weaker c.note.result (left c.args.contests.now c.note.new.self c.args.prefix c.args.had c.args.has c.if-not-had.false c.if-has.false) c.note.ensures.counts

pub returns-then-has-clause-counts : goal.returns-then-has-clause-counts
returns-then-has-clause-counts g c =
    λ k before now s.
    elim c.then-has.branch [
      | then-has-via-then-has w ↦ one_is c.args.contests.now c.args.prefix c.args.had c.args.has k before now s w.if-has.true
      | then-has-via-else-has+then-not-had w ↦ none_was c.args.contests.now c.args.prefix c.args.had c.args.has k before now s w.if-not-had.true w.if-has.false
    ]
