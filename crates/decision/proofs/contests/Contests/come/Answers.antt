use Rattle.std.proofs.Common.{Option, None, Some, refl, sym, ap, subst, ◌∙◌, ◌+◌, ◌<◌, ◌≡◌, true, arith}
use Rattle.std.specs.Prelude.{MatchOption}
use Rattle.std.specs.FinMap as tables
use Rattle.std.specs.FinMap.{FinMap}
use Rattle.addr4.specs.Prefixes.{prefix_cmp}
use Rattle.nibble_trie.specs.Contents.{Contents, IsEntered, IsOccupied}
use Rattle.decision.specs.declared.contest.Mark.{Mark}
use Rattle.decision.specs.declared.lineup.Lineup.{Lineup}
use Rattle.decision.specs.Contests.{Contest, AreMarked, Updated, contests_of, contest_of, walkers_in}
use Rattle.decision.proofs.Kept.{nothing_known, known_of, put_known, put_marked}
use Rattle.decision.proofs.KnowLemmas.{stays_knows, enters_knows}
use Rattle.decision.proofs.CountLemmas.{has_room, first_comes, stays_counts}
use Rattle.decision.proofs.contests.Contests.come.Goals as goal

pub invariant_of-self-in-Ok-None : goal.invariant_of-self-in-Ok-None
invariant_of-self-in-Ok-None g c =
    let p = c.args.prefix in
    let marks = c.self.inside.marks in
    let lines = c.self.inside.lines.rows in
    let first : Mark = record { walkers = 1; winner = None } in
    let entered : IsEntered marks c.enter.new.self p first = subst (λ o. MatchOption o (IsEntered marks c.enter.new.self p first) (IsOccupied marks c.enter.new.self p first)) c.in-Ok-None.field-0-is c.in-Ok-None.ensures.ok in
    subst (λ (m : FinMap prefix_cmp Mark). AreMarked m lines) (sym entered.rows) (put_marked marks.rows lines lines p first (λ q apart. refl) c.self.invariant)

pub returns-in-Ok-None : goal.returns-in-Ok-None
returns-in-Ok-None g c =
    let p = c.args.prefix in
    let marks = c.self.inside.marks in
    let lines = c.self.inside.lines.rows in
    let first : Mark = record { walkers = 1; winner = None } in
    let contest : Contest = record { walkers = 1; winner = None; line = None } in
    let entered : IsEntered marks c.enter.new.self p first = subst (λ o. MatchOption o (IsEntered marks c.enter.new.self p first) (IsOccupied marks c.enter.new.self p first)) c.in-Ok-None.field-0-is c.in-Ok-None.ensures.ok in
    let none = ap (λ (m : FinMap prefix_cmp Contest). tables.get m p) (sym c.self.view_is) ∙ nothing_known marks.rows lines p entered.absent in
    let new =
    subst (λ (m : FinMap prefix_cmp Mark). Updated c.args.self.now (contests_of m lines) p (Some contest)) (sym entered.rows)
    (subst (λ (l : Option Lineup). Updated c.args.self.now (contests_of (tables.insert marks.rows p first) lines) p (Some (contest_of first l))) (c.self.invariant p entered.absent)
    (put_known c.args.self.now marks.rows lines lines p first c.self.view_is (λ q apart. refl))) in
    record {
      counts = stays_counts c.args.self.now _ p true contest (λ e. absurd (omega (arith, e))) (first_comes p true c.args.self.now c.requires none) new;
      known = λ rows candidates counts covers knows. enters_knows c.args.self.now _ p contest none refl refl new rows knows;
    }

pub moved-mark-requires-clause-more : goal.moved-mark-requires-clause-more
moved-mark-requires-clause-more g c = λ comes.
    let p = c.args.prefix in
    let marks = c.self.inside.marks in
    let lines = c.self.inside.lines.rows in
    let first : Mark = record { walkers = 1; winner = None } in
    let stands : IsOccupied marks c.enter.new.self p first (c.in-Ok-Some.key, c.in-Ok-Some.field-0-0-1) = subst (λ o. MatchOption o (IsEntered marks c.enter.new.self p first) (IsOccupied marks c.enter.new.self p first)) c.in-Ok-Some.field-0-is c.in-Ok-Some.ensures.ok in
    let mark = c.value_near-mark.result.now in
    let at =
    ap (λ (m : FinMap prefix_cmp Contest). tables.get m p) (sym c.self.view_is)
    ∙ known_of marks.rows lines p mark (ap (λ (t : Contents Mark). tables.get t.rows p) (sym stands.stays) ∙ c.value_near-mark.ensures.value) in
    subst (λ o. walkers_in o < 65) at (has_room p true c.args.self.now c.requires comes)

pub invariant_of-self-in-Ok-Some : goal.invariant_of-self-in-Ok-Some
invariant_of-self-in-Ok-Some g c =
    let p = c.args.prefix in
    let marks = c.self.inside.marks in
    let lines = c.self.inside.lines.rows in
    let first : Mark = record { walkers = 1; winner = None } in
    let stands : IsOccupied marks c.enter.new.self p first (c.in-Ok-Some.key, c.in-Ok-Some.field-0-0-1) = subst (λ o. MatchOption o (IsEntered marks c.enter.new.self p first) (IsOccupied marks c.enter.new.self p first)) c.in-Ok-Some.field-0-is c.in-Ok-Some.ensures.ok in
    let more : Mark = record { walkers = c.moved-mark.result; winner = c.value_near-mark.result.now.winner } in
    subst (λ (t : Contents Mark). AreMarked (tables.insert t.rows p more) lines) (sym stands.stays) (put_marked marks.rows lines lines p more (λ q apart. refl) c.self.invariant)

pub returns-in-Ok-Some : goal.returns-in-Ok-Some
returns-in-Ok-Some g c =
    let p = c.args.prefix in
    let marks = c.self.inside.marks in
    let lines = c.self.inside.lines.rows in
    let line = tables.get lines p in
    let first : Mark = record { walkers = 1; winner = None } in
    let stands : IsOccupied marks c.enter.new.self p first (c.in-Ok-Some.key, c.in-Ok-Some.field-0-0-1) = subst (λ o. MatchOption o (IsEntered marks c.enter.new.self p first) (IsOccupied marks c.enter.new.self p first)) c.in-Ok-Some.field-0-is c.in-Ok-Some.ensures.ok in
    let mark = c.value_near-mark.result.now in
    let m = c.moved-mark.result in
    let more : Mark = record { walkers = m; winner = mark.winner } in
    let at =
    ap (λ (m : FinMap prefix_cmp Contest). tables.get m p) (sym c.self.view_is)
    ∙ known_of marks.rows lines p mark (ap (λ (t : Contents Mark). tables.get t.rows p) (sym stands.stays) ∙ c.value_near-mark.ensures.value) in
    let new =
    subst (λ (t : Contents Mark). Updated c.args.self.now (contests_of (tables.insert t.rows p more) lines) p (Some (contest_of more line))) (sym stands.stays)
    (put_known c.args.self.now marks.rows lines lines p more c.self.view_is (λ q apart. refl)) in
    record {
      counts = stays_counts c.args.self.now _ p true (contest_of more line) (λ e. absurd (omega (arith, c.moved-mark.ensures, e))) (subst (λ o. m ≡ walkers_in o + 1) (sym at) c.moved-mark.ensures) new;
      known = λ rows candidates counts covers knows. stays_knows c.args.self.now _ p (contest_of mark line) (contest_of more line) at refl refl new rows knows;
    }
