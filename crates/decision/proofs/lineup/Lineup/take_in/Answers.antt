use Rattle.std.proofs.Common.{sym, ◌∙◌, subst}
use Rattle.decision.specs.Lineups.{IsLine, with_own}
use Rattle.decision.proofs.LineupLemmas.{no_candidate}
use Rattle.decision.proofs.Parts.{place_fits, joined_line}
use Rattle.decision.proofs.lineup.Lineup.take_in.Goals as goal

pub put-requires-clause-place : goal.put-requires-clause-place
put-requires-clause-place g c =
    let l = c.requires.lined in
    (place_fits c.args.branch l.here _ c.leave-place.result c.requires.small (c.leave-place.ensures l.here l.lined)).0

pub put-requires-clause-beside : goal.put-requires-clause-beside
put-requires-clause-beside g c =
    let l = c.requires.lined in
    (place_fits c.args.branch l.here _ c.leave-place.result c.requires.small (c.leave-place.ensures l.here l.lined)).1

pub returns-in_ok-put : goal.returns-in_ok-put
returns-in_ok-put g c = λ here lined.
    joined_line c.args.branch c.args.change.now.after here c.in-Some.candidate c.leave-place.new.self c.put.new.self c.leave-place.result c.requires.small
    (sym c.in-Some.is ∙ c.candidate.ensures) (c.leave-place.ensures here lined) c.in_ok-put.ensures.candidates c.in_ok-put.ensures.branches

pub returns-in_default : goal.returns-in_default
returns-in_default g c = λ here lined.
    subst (λ o. IsLine (with_own c.args.branch o here) c.leave-place.new.self) (sym (no_candidate c.args.change.now.after (sym c.in_default.is ∙ c.candidate.ensures)))
    (c.leave-place.ensures here lined).lined
