use Rattle.std.proofs.Common.{◌≡◌, ◌<◌, ◌+◌, None, false, refl, sym, ap, subst, ◌∙◌}
use Rattle.std.specs.FinMap as tables
use Rattle.std.specs.FinMap.{FinMap}
use Rattle.addr4.specs.Prefixes.{prefix_cmp}
use Rattle.decision.specs.declared.contest.Mark.{Mark}
use Rattle.decision.specs.Contests.{Contest, contest_of, walkers_in}
use Rattle.decision.proofs.Kept.{mark_there, known_of, put_known, put_marked, then_updated}
use Rattle.decision.proofs.KnowLemmas.{stays_knows, gone_knows}
use Rattle.decision.proofs.CountLemmas.{has_some, stays_counts, gone_counts}
use Rattle.decision.proofs.contests.Contests.go.Goals as goal

pub value_mut-mark-requires : goal.value_mut-mark-requires
value_mut-mark-requires g c =
    mark_there c.self.inside.marks.rows c.self.inside.lines.rows c.args.prefix
    (subst (λ (m : FinMap prefix_cmp Contest). 0 < walkers_in (tables.get m c.args.prefix)) (sym c.self.view_is) (has_some c.args.prefix false c.args.self.now c.requires refl))

pub moved-mark-requires-clause-less : goal.moved-mark-requires-clause-less
moved-mark-requires-clause-less g c = λ goes.
    let p = c.args.prefix in
    let at = ap (λ (m : FinMap prefix_cmp Contest). tables.get m p) (sym c.self.view_is) ∙ known_of c.self.inside.marks.rows c.self.inside.lines.rows p c.value_mut-mark.result.now c.value_mut-mark.ensures.value in
    subst (λ o. 0 < walkers_in o) at (has_some p false c.args.self.now c.requires goes)

pub invariant_of-self : goal.invariant_of-self
invariant_of-self g c = put_marked c.self.inside.marks.rows c.self.inside.lines.rows c.self.inside.lines.rows c.args.prefix _ (λ q apart. refl) c.self.invariant

pub invariant_of-self-else-mark-eq0 : goal.invariant_of-self-else-mark-eq0
invariant_of-self-else-mark-eq0 g c = put_marked c.self.inside.marks.rows c.self.inside.lines.rows c.self.inside.lines.rows c.args.prefix _ (λ q apart. refl) c.self.invariant

pub returns-then-mark-eq0 : goal.returns-then-mark-eq0
returns-then-mark-eq0 g c =
    let p = c.args.prefix in
    let marks = c.self.inside.marks.rows in
    let lines = c.self.inside.lines.rows in
    let mark = c.value_mut-mark.result.now in
    let m = c.moved-mark.result in
    let less : Mark = record { walkers = m; winner = mark.winner } in
    let at = ap (λ (t : FinMap prefix_cmp Contest). tables.get t p) (sym c.self.view_is) ∙ known_of marks lines p mark c.value_mut-mark.ensures.value in
    let new = then_updated c.args.self.now _ c.forget.new.self p _ None (put_known c.args.self.now marks lines lines p less c.self.view_is (λ q apart. refl)) c.forget.ensures in
    record {
      counts = gone_counts c.args.self.now c.forget.new.self p false m c.if-mark-eq0.true (subst (λ o. m + 1 ≡ walkers_in o) (sym at) c.moved-mark.ensures) new;
      known = gone_knows c.args.self.now c.forget.new.self p new;
    }

pub returns-else-mark-eq0 : goal.returns-else-mark-eq0
returns-else-mark-eq0 g c =
    let p = c.args.prefix in
    let marks = c.self.inside.marks.rows in
    let lines = c.self.inside.lines.rows in
    let line = tables.get lines p in
    let mark = c.value_mut-mark.result.now in
    let m = c.moved-mark.result in
    let less : Mark = record { walkers = m; winner = mark.winner } in
    let at = ap (λ (t : FinMap prefix_cmp Contest). tables.get t p) (sym c.self.view_is) ∙ known_of marks lines p mark c.value_mut-mark.ensures.value in
    let new = put_known c.args.self.now marks lines lines p less c.self.view_is (λ q apart. refl) in
    record {
      counts = stays_counts c.args.self.now _ p false (contest_of less line) c.if-mark-eq0.false (subst (λ o. m + 1 ≡ walkers_in o) (sym at) c.moved-mark.ensures) new;
      known = λ rows candidates counts covers knows. stays_knows c.args.self.now _ p (contest_of mark line) (contest_of less line) at refl refl new rows knows;
    }
