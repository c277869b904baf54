use Rattle.std.proofs.Common.{sym, ap, subst, ◌∙◌, ◌∷◌, []}
use Rattle.best_path.specs.declared.candidate.Candidate.{Candidate}
use Rattle.decision.specs.Lineups.{at_prefix, with_own}
use Rattle.decision.specs.Contests.{OnlyWinner}
use Rattle.decision.proofs.Parts.{other_line}
use Rattle.decision.proofs.contest.line_of_other.Goals as goal

pub returns-in_ok-of_one-in-Some-row : goal.returns-in_ok-of_one-in-Some-row
returns-in_ok-of_one-in-Some-row g c =
    let here = at_prefix (g.B.Branches.rows c.args.all.now) c.args.change.now.prefix in
    let own = c.args.change.now.before in
    other_line c.args.branch c.in-Some.number own here c.in-Some-row.route c.in_ok-of_one-in-Some-row.field-0 c.if-number-ge65.false c.if-number-branch.false
    (◌∙◌ {a = here c.in-Some.number} (sym {b = here c.in-Some.number} c.in_ok-row.ensures) c.in-Some-row.is) (subst (OnlyWinner (with_own c.args.branch own here)) c.in-Some.is c.requires.only)
    (c.in_ok-of_one-in-Some-row.ensures.candidates ∙ ap (λ (k : Candidate). k ∷ []) c.of.ensures) c.in_ok-of_one-in-Some-row.ensures.branches
