use Rattle.std.proofs.Common.{sym, ap, subst, ◌∙◌, length}
use Rattle.std.specs.FinMap as tables
use Rattle.std.specs.FinMap.{FinMap}
use Rattle.addr4.specs.Prefixes.{prefix_cmp}
use Rattle.decision.specs.declared.lineup.Lineup.{Lineup}
use Rattle.decision.specs.Lineups.{at_prefix, with_own}
use Rattle.decision.specs.Contests.{IsContest, contest_of}
use Rattle.decision.proofs.Parts.{few_of}
use Rattle.decision.proofs.Kept.{put_here, put_elsewhere, gone_here, gone_elsewhere}
use Rattle.decision.proofs.contest.decide.Goals as goal

pub returns-in_err-winners-clause-others : goal.returns-in_err-winners-clause-others
returns-in_err-winners-clause-others g c = λ q apart. put_elsewhere c.args.lines.now.rows c.args.change.now.prefix c.decide_in_line.new.line q apart

pub returns-then-is_short-clause-known : goal.returns-then-is_short-clause-known
returns-then-is_short-clause-known g c =
    let here = with_own c.args.branch c.args.change.now.after (at_prefix (g.B.Branches.rows c.args.all.now) c.args.change.now.prefix) in
    let p = c.args.change.now.prefix in
    let few = few_of (length c.decide_in_line.new.line.branches.items) c.is_short.result c.is_short.ensures c.if-is_short.true in
    subst (λ l. IsContest here (contest_of c.decide_in_line.new.mark l))
    (sym (ap (λ (t : FinMap prefix_cmp Lineup). tables.get t p) c.remove.ensures.rows ∙ gone_here (tables.insert c.args.lines.now.rows p c.decide_in_line.new.line) p))
    (record { best = c.in_ok-winners.ensures.known.best; others = c.in_ok-winners.ensures.short few })

pub returns-then-is_short-clause-others : goal.returns-then-is_short-clause-others
returns-then-is_short-clause-others g c = λ q apart.
    let p = c.args.change.now.prefix in
    ap (λ (t : FinMap prefix_cmp Lineup). tables.get t q) c.remove.ensures.rows
    ∙ gone_elsewhere (tables.insert c.args.lines.now.rows p c.decide_in_line.new.line) p q apart
    ∙ put_elsewhere c.args.lines.now.rows p c.decide_in_line.new.line q apart

pub returns-else-is_short-clause-known : goal.returns-else-is_short-clause-known
returns-else-is_short-clause-known g c =
    let here = with_own c.args.branch c.args.change.now.after (at_prefix (g.B.Branches.rows c.args.all.now) c.args.change.now.prefix) in
    subst (λ l. IsContest here (contest_of c.decide_in_line.new.mark l)) (sym (put_here c.args.lines.now.rows c.args.change.now.prefix c.decide_in_line.new.line)) c.in_ok-winners.ensures.known

pub returns-else-is_short-clause-others : goal.returns-else-is_short-clause-others
returns-else-is_short-clause-others g c = λ q apart. put_elsewhere c.args.lines.now.rows c.args.change.now.prefix c.decide_in_line.new.line q apart
