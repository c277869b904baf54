use Rattle.std.proofs.Common.{sym, ap, subst, ◌∙◌}
use Rattle.std.specs.Prelude.{MatchOption}
use Rattle.std.specs.FinMap as tables
use Rattle.std.specs.FinMap.{FinMap}
use Rattle.addr4.specs.Prefixes.{prefix_cmp}
use Rattle.decision.specs.declared.lineup.Lineup.{Lineup}
use Rattle.decision.specs.declared.contest.Mark.{Mark}
use Rattle.decision.specs.Lineups.{IsLine, at_prefix, with_own}
use Rattle.decision.specs.Contests.{IsContest, HasNoOther, contest_of}
use Rattle.decision.proofs.Parts.{alone_best}
use Rattle.decision.proofs.Kept.{put_here, put_elsewhere}
use Rattle.decision.proofs.KnowLemmas.{alone_contest}
use Rattle.decision.proofs.contest.decide_alone.Goals as goal

pub returns-in_default-clause-win : goal.returns-in_default-clause-win
returns-in_default-clause-win g c =
    let here = at_prefix (g.B.Branches.rows c.args.all.now) c.args.change.now.prefix in
    alone_best c.args.branch here c.requires.small
    (subst (λ l. MatchOption l (HasNoOther c.args.branch here) (IsLine (with_own c.args.branch c.args.change.now.before here))) c.in_default.is c.in_ok-line.ensures)

pub returns-in_default-clause-known : goal.returns-in_default-clause-known
returns-in_default-clause-known g c =
    let here = at_prefix (g.B.Branches.rows c.args.all.now) c.args.change.now.prefix in
    let mark : Mark = record { walkers = c.args.mark.now.walkers; winner = c.own_winner-mark.result } in
    alone_contest c.args.branch here c.args.change.now.after (contest_of mark (tables.get c.args.lines.now.rows c.args.change.now.prefix)) c.requires.small
    (subst (λ l. MatchOption l (HasNoOther c.args.branch here) (IsLine (with_own c.args.branch c.args.change.now.before here))) c.in_default.is c.in_ok-line.ensures)
    c.own_winner-mark.ensures c.requires.none

pub returns-in-Ok-clause-known : goal.returns-in-Ok-clause-known
returns-in-Ok-clause-known g c =
    let here = at_prefix (g.B.Branches.rows c.args.all.now) c.args.change.now.prefix in
    let p = c.args.change.now.prefix in
    let put = tables.insert c.args.lines.now.rows p c.decide_in_line.new.line in
    subst (λ l. IsContest (with_own c.args.branch c.args.change.now.after here) (contest_of c.decide_in_line.new.mark l))
    (sym (ap (λ (t : FinMap prefix_cmp Lineup). tables.get t p) {x = c.insert.new.self.rows} {y = put} c.in-Ok.ensures.ok ∙ put_here c.args.lines.now.rows p c.decide_in_line.new.line)) c.in_ok-winners.ensures.known

pub returns-in-Ok-clause-others : goal.returns-in-Ok-clause-others
returns-in-Ok-clause-others g c = λ q apart.
    ap (λ (t : FinMap prefix_cmp Lineup). tables.get t q) c.in-Ok.ensures.ok ∙ put_elsewhere c.args.lines.now.rows c.args.change.now.prefix c.decide_in_line.new.line q apart
