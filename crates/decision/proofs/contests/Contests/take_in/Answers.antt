use Rattle.std.proofs.Common.{◌≡◌, ◌∙◌, false, true, is_some, Some, refl, sym, ap, subst}
use Rattle.std.specs.Prelude.{MatchOption}
use Rattle.std.specs.FinMap as tables
use Rattle.std.specs.FinMap.{FinMap}
use Rattle.addr4.specs.Prefixes.{prefix_cmp}
use Rattle.decision.specs.Lineups.{at_prefix}
use Rattle.decision.specs.Wins.{StandsAlone, WinBoth}
use Rattle.decision.specs.Contests.{Contest, contest_of}
use Rattle.decision.proofs.BestLemmas.{decides}
use Rattle.decision.proofs.Kept.{nothing_known, known_of, put_known, put_marked}
use Rattle.decision.proofs.KnowLemmas.{known_standing, knows_in_place}
use Rattle.decision.proofs.CountLemmas.{counts_in_place}
use Rattle.decision.proofs.contests.Contests.take_in.Goals as goal

pub unreachable-requires : goal.unreachable-requires
unreachable-requires g c =
    let p = c.args.change.prefix in
    let none = ap (λ (m : FinMap prefix_cmp Contest). tables.get m p) (sym c.self.view_is) ∙ nothing_known c.self.inside.marks.rows c.self.inside.lines.rows p (sym c.in_default.ensures.value) in
    let clash : false ≡ true = sym (ap is_some none) ∙ c.requires.there in cc

pub decide-requires-clause-known : goal.decide-requires-clause-known
decide-requires-clause-known g c =
    let rows = g.B.Branches.rows c.args.all.now in
    let p = c.args.change.prefix in
    let at = ap (λ (m : FinMap prefix_cmp Contest). tables.get m p) (sym c.self.view_is) ∙ known_of c.self.inside.marks.rows c.self.inside.lines.rows p c.in-Some.mark.now (sym c.in-Some.ensures.value) in
    known_standing c.args.branch c.args.self.now rows c.args.change (contest_of c.in-Some.mark.now (tables.get c.self.inside.lines.rows p)) c.requires.known at

pub invariant_of-self : goal.invariant_of-self
invariant_of-self g c = put_marked c.self.inside.marks.rows c.self.inside.lines.rows c.decide.new.lines.rows c.args.change.prefix c.decide.new.mark c.decide.ensures.others c.self.invariant

pub invariant_of-self-2 : goal.invariant_of-self-2
invariant_of-self-2 g c = put_marked c.self.inside.marks.rows c.self.inside.lines.rows c.decide.new.lines.rows c.args.change.prefix c.decide.new.mark c.decide.ensures.others c.self.invariant

pub invariant_of-self-in_err-sent : goal.invariant_of-self-in_err-sent
invariant_of-self-in_err-sent g c = put_marked c.self.inside.marks.rows c.self.inside.lines.rows c.decide.new.lines.rows c.args.change.prefix c.decide.new.mark c.decide.ensures.others c.self.invariant

pub invariant_of-self-in_default-2 : goal.invariant_of-self-in_default-2
invariant_of-self-in_default-2 g c = put_marked c.self.inside.marks.rows c.self.inside.lines.rows c.decide.new.lines.rows c.args.change.prefix c.decide.new.mark c.decide.ensures.others c.self.invariant

pub returns-in_default-2-clause-decides : goal.returns-in_default-2-clause-decides
returns-in_default-2-clause-decides g c = λ before p stay sent.
    let rows = g.B.Branches.rows c.args.all.now in
    let here = at_prefix rows c.args.change.prefix in
    let alone : StandsAlone c.args.branch here = subst (λ w. MatchOption w (StandsAlone c.args.branch here) (WinBoth c.args.branch here c.args.change)) c.in_default-2.is c.in_ok-winners.ensures.win in
    decides c.args.branch rows c.args.change c.args.change.before c.args.change.after (Some c.args.change)
    (alone c.args.change.before) (alone c.args.change.after) (refl, refl, refl, sent.1.1) before p stay sent

pub returns-in_default-2-clause-known : goal.returns-in_default-2-clause-known
returns-in_default-2-clause-known g c =
    let rows = g.B.Branches.rows c.args.all.now in
    knows_in_place c.args.branch c.args.self.now _ rows c.args.change _ c.requires.known
    (put_known c.args.self.now c.self.inside.marks.rows c.self.inside.lines.rows c.decide.new.lines.rows c.args.change.prefix c.decide.new.mark c.self.view_is c.decide.ensures.others)
    c.in_ok-winners.ensures.known

pub returns-in_default-2-clause-counts : goal.returns-in_default-2-clause-counts
returns-in_default-2-clause-counts g c =
    let p = c.args.change.prefix in
    let at = ap (λ (m : FinMap prefix_cmp Contest). tables.get m p) (sym c.self.view_is) ∙ known_of c.self.inside.marks.rows c.self.inside.lines.rows p c.in-Some.mark.now (sym c.in-Some.ensures.value) in
    counts_in_place c.args.self.now _ p (contest_of c.in-Some.mark.now (tables.get c.self.inside.lines.rows p)) _ at c.decide.ensures.walkers
    (put_known c.args.self.now c.self.inside.marks.rows c.self.inside.lines.rows c.decide.new.lines.rows p c.decide.new.mark c.self.view_is c.decide.ensures.others)

pub returns-clause-known : goal.returns-clause-known
returns-clause-known g c =
    let rows = g.B.Branches.rows c.args.all.now in
    knows_in_place c.args.branch c.args.self.now _ rows c.args.change _ c.requires.known
    (put_known c.args.self.now c.self.inside.marks.rows c.self.inside.lines.rows c.decide.new.lines.rows c.args.change.prefix c.decide.new.mark c.self.view_is c.decide.ensures.others)
    c.in_ok-winners.ensures.known

pub returns-clause-counts : goal.returns-clause-counts
returns-clause-counts g c =
    let p = c.args.change.prefix in
    let at = ap (λ (m : FinMap prefix_cmp Contest). tables.get m p) (sym c.self.view_is) ∙ known_of c.self.inside.marks.rows c.self.inside.lines.rows p c.in-Some.mark.now (sym c.in-Some.ensures.value) in
    counts_in_place c.args.self.now _ p (contest_of c.in-Some.mark.now (tables.get c.self.inside.lines.rows p)) _ at c.decide.ensures.walkers
    (put_known c.args.self.now c.self.inside.marks.rows c.self.inside.lines.rows c.decide.new.lines.rows p c.decide.new.mark c.self.view_is c.decide.ensures.others)
