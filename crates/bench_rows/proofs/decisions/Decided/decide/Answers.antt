use Rattle.std.proofs.Common.{true, false, Some, sym, subst, ◌∙◌}
use Rattle.std.specs.Prelude.{IsSome}
use Rattle.std.specs.FinMap as map
use Rattle.link_change.specs.Changes.{IsChangeOf}
use Rattle.decision.specs.Branches.{AllRows}
use Rattle.decision.specs.Contests.{Counts}
use Rattle.bench_rows.specs.Tables.{rows_in, candidates_in, Informed}
use Rattle.bench_rows.proofs.Branches.{same_rows, known_before, move_of, same_candidates, there_before, there_now, covers_come, moved_counts, covers_rows, was_none, comes_some, was_some, row_is}
use Rattle.bench_rows.proofs.decisions.Decided.decide.Goals as goal

pub returns-in_default-clause-informed : goal.returns-in_default-clause-informed
returns-in_default-clause-informed c =
    let old = rows_in c.args.self.now.all.tables.items in
    let new = rows_in c.set.new.self.tables.items in
    let stays = subst (λ r. IsChangeOf c.args.step.prefix c.in_ok-before.before c.in_ok-after.after r) c.in_default.is c.between.ensures in
    subst (λ (r : AllRows). Informed c.args.self.now.contests r)
    (sym (same_rows c.args.step.branch c.args.step.prefix c.args.step.row c.in_ok-before.before old new c.requires.small c.in_ok-before.ensures.rows (sym stays ∙ c.in_ok-after.ensures)))
    c.requires.informed

pub note-requires : goal.note-requires
note-requires c =
    let h = subst (λ a. IsChangeOf c.args.step.prefix c.in_ok-before.before a (Some c.in-Some.change)) c.in_ok-after.ensures
    (subst (λ r. IsChangeOf c.args.step.prefix c.in_ok-before.before c.in_ok-after.after r) c.in-Some.is c.between.ensures) in
    let old = rows_in c.args.self.now.all.tables.items in
    let new = rows_in c.set.new.self.tables.items in
    let sets = c.in_ok-before.ensures.rows in
    let branch = c.args.step.branch in
    let p = c.args.step.prefix in
    let row = c.args.step.row in
    let before = c.in_ok-before.before in
    let was = was_none p before row c.in-Some.change h c.is_none.result c.is_none.ensures c.if-is_none.true in
    let is = comes_some p before row c.in-Some.change h was in
    move_of branch p row before old new c.requires.small sets true c.args.self.now.contests was is c.requires.informed.counts

pub take_in-requires-clause-known : goal.take_in-requires-clause-known
take_in-requires-clause-known c =
    let h = subst (λ a. IsChangeOf c.args.step.prefix c.in_ok-before.before a (Some c.in-Some.change)) c.in_ok-after.ensures
    (subst (λ r. IsChangeOf c.args.step.prefix c.in_ok-before.before c.in_ok-after.after r) c.in-Some.is c.between.ensures) in
    let old = rows_in c.args.self.now.all.tables.items in
    let new = rows_in c.set.new.self.tables.items in
    let sets = c.in_ok-before.ensures.rows in
    let branch = c.args.step.branch in
    let p = c.args.step.prefix in
    let row = c.args.step.row in
    let before = c.in_ok-before.before in
    let was = was_none p before row c.in-Some.change h c.is_none.result c.is_none.ensures c.if-is_none.true in
    let is = comes_some p before row c.in-Some.change h was in
    let counts = moved_counts branch p row before old new c.requires.small sets true c.args.self.now.contests c.note.new.self was is c.in_ok-note.ensures.counts c.requires.informed.counts in
    known_before branch p row before old new c.requires.small sets c.in-Some.change c.note.new.self h
    (c.in_ok-note.ensures.known old (candidates_in new) counts (covers_come branch p row before old new c.requires.small sets is) c.requires.informed.knows)

pub take_in-requires-clause-there : goal.take_in-requires-clause-there
take_in-requires-clause-there c =
    let h = subst (λ a. IsChangeOf c.args.step.prefix c.in_ok-before.before a (Some c.in-Some.change)) c.in_ok-after.ensures
    (subst (λ r. IsChangeOf c.args.step.prefix c.in_ok-before.before c.in_ok-after.after r) c.in-Some.is c.between.ensures) in
    let old = rows_in c.args.self.now.all.tables.items in
    let new = rows_in c.set.new.self.tables.items in
    let sets = c.in_ok-before.ensures.rows in
    let branch = c.args.step.branch in
    let p = c.args.step.prefix in
    let row = c.args.step.row in
    let before = c.in_ok-before.before in
    let was = was_none p before row c.in-Some.change h c.is_none.result c.is_none.ensures c.if-is_none.true in
    let is = comes_some p before row c.in-Some.change h was in
    let counts = moved_counts branch p row before old new c.requires.small sets true c.args.self.now.contests c.note.new.self was is c.in_ok-note.ensures.counts c.requires.informed.counts in
    subst (λ q. IsSome (map.get c.note.new.self q)) (sym h.0) (there_now branch p row before old new c.requires.small sets c.note.new.self is counts)

pub returns-then-is_none-clause-informed : goal.returns-then-is_none-clause-informed
returns-then-is_none-clause-informed c =
    let h = subst (λ a. IsChangeOf c.args.step.prefix c.in_ok-before.before a (Some c.in-Some.change)) c.in_ok-after.ensures
    (subst (λ r. IsChangeOf c.args.step.prefix c.in_ok-before.before c.in_ok-after.after r) c.in-Some.is c.between.ensures) in
    let old = rows_in c.args.self.now.all.tables.items in
    let new = rows_in c.set.new.self.tables.items in
    let sets = c.in_ok-before.ensures.rows in
    let branch = c.args.step.branch in
    let p = c.args.step.prefix in
    let row = c.args.step.row in
    let before = c.in_ok-before.before in
    let was = was_none p before row c.in-Some.change h c.is_none.result c.is_none.ensures c.if-is_none.true in
    let is = comes_some p before row c.in-Some.change h was in
    let counts = moved_counts branch p row before old new c.requires.small sets true c.args.self.now.contests c.note.new.self was is c.in_ok-note.ensures.counts c.requires.informed.counts in
    record { knows = c.in_ok-sent.ensures.known; counts = c.in_ok-sent.ensures.counts (candidates_in new) counts }

pub take_in-requires-2-clause-known : goal.take_in-requires-2-clause-known
take_in-requires-2-clause-known c =
    let h = subst (λ a. IsChangeOf c.args.step.prefix c.in_ok-before.before a (Some c.in-Some.change)) c.in_ok-after.ensures
    (subst (λ r. IsChangeOf c.args.step.prefix c.in_ok-before.before c.in_ok-after.after r) c.in-Some.is c.between.ensures) in
    let old = rows_in c.args.self.now.all.tables.items in
    let new = rows_in c.set.new.self.tables.items in
    let sets = c.in_ok-before.ensures.rows in
    let branch = c.args.step.branch in
    let p = c.args.step.prefix in
    let row = c.args.step.row in
    let before = c.in_ok-before.before in
    known_before branch p row before old new c.requires.small sets c.in-Some.change c.args.self.now.contests h c.requires.informed.knows

pub take_in-requires-2-clause-there : goal.take_in-requires-2-clause-there
take_in-requires-2-clause-there c =
    let h = subst (λ a. IsChangeOf c.args.step.prefix c.in_ok-before.before a (Some c.in-Some.change)) c.in_ok-after.ensures
    (subst (λ r. IsChangeOf c.args.step.prefix c.in_ok-before.before c.in_ok-after.after r) c.in-Some.is c.between.ensures) in
    let old = rows_in c.args.self.now.all.tables.items in
    let new = rows_in c.set.new.self.tables.items in
    let sets = c.in_ok-before.ensures.rows in
    let branch = c.args.step.branch in
    let p = c.args.step.prefix in
    let row = c.args.step.row in
    let before = c.in_ok-before.before in
    let was = was_some p before row c.in-Some.change h c.is_none.result c.is_none.ensures c.if-is_none.false in
    subst (λ q. IsSome (map.get c.args.self.now.contests q)) (sym h.0) (there_before branch p row before old new c.requires.small sets c.args.self.now.contests was c.requires.informed.counts)

pub note-requires-then-goes : goal.note-requires-then-goes
note-requires-then-goes c =
    let h = subst (λ a. IsChangeOf c.args.step.prefix c.in_ok-before.before a (Some c.in-Some.change)) c.in_ok-after.ensures
    (subst (λ r. IsChangeOf c.args.step.prefix c.in_ok-before.before c.in_ok-after.after r) c.in-Some.is c.between.ensures) in
    let old = rows_in c.args.self.now.all.tables.items in
    let new = rows_in c.set.new.self.tables.items in
    let sets = c.in_ok-before.ensures.rows in
    let branch = c.args.step.branch in
    let p = c.args.step.prefix in
    let row = c.args.step.row in
    let before = c.in_ok-before.before in
    let was = was_some p before row c.in-Some.change h c.is_none.result c.is_none.ensures c.if-is_none.false in
    move_of branch p row before old new c.requires.small sets false c.take_in-2.new.self was
    (row_is p before row c.in-Some.change h c.is_none-goes.result true c.is_none-goes.ensures c.if-goes.true)
    (c.in_ok-sent-2.ensures.counts (candidates_in old) c.requires.informed.counts)

pub returns-then-goes-clause-informed : goal.returns-then-goes-clause-informed
returns-then-goes-clause-informed c =
    let h = subst (λ a. IsChangeOf c.args.step.prefix c.in_ok-before.before a (Some c.in-Some.change)) c.in_ok-after.ensures
    (subst (λ r. IsChangeOf c.args.step.prefix c.in_ok-before.before c.in_ok-after.after r) c.in-Some.is c.between.ensures) in
    let old = rows_in c.args.self.now.all.tables.items in
    let new = rows_in c.set.new.self.tables.items in
    let sets = c.in_ok-before.ensures.rows in
    let branch = c.args.step.branch in
    let p = c.args.step.prefix in
    let row = c.args.step.row in
    let before = c.in_ok-before.before in
    let was = was_some p before row c.in-Some.change h c.is_none.result c.is_none.ensures c.if-is_none.false in
    let counts = moved_counts branch p row before old new c.requires.small sets false c.take_in-2.new.self c.note-then-goes.new.self was
    (row_is p before row c.in-Some.change h c.is_none-goes.result true c.is_none-goes.ensures c.if-goes.true) c.in_ok-note-2.ensures.counts
    (c.in_ok-sent-2.ensures.counts (candidates_in old) c.requires.informed.counts) in
    record { knows = c.in_ok-note-2.ensures.known new (candidates_in new) counts (covers_rows new p) c.in_ok-sent-2.ensures.known; counts = counts }

pub returns-clause-informed : goal.returns-clause-informed
returns-clause-informed c =
    let h = subst (λ a. IsChangeOf c.args.step.prefix c.in_ok-before.before a (Some c.in-Some.change)) c.in_ok-after.ensures
    (subst (λ r. IsChangeOf c.args.step.prefix c.in_ok-before.before c.in_ok-after.after r) c.in-Some.is c.between.ensures) in
    let old = rows_in c.args.self.now.all.tables.items in
    let new = rows_in c.set.new.self.tables.items in
    let sets = c.in_ok-before.ensures.rows in
    let branch = c.args.step.branch in
    let p = c.args.step.prefix in
    let row = c.args.step.row in
    let before = c.in_ok-before.before in
    let was = was_some p before row c.in-Some.change h c.is_none.result c.is_none.ensures c.if-is_none.false in
    record {
      knows = c.in_ok-sent-2.ensures.known;
      counts = subst (Counts c.take_in-2.new.self)
          (sym (same_candidates branch p row before old new c.requires.small sets (was ∙ sym (row_is p before row c.in-Some.change h c.is_none-goes.result false c.is_none-goes.ensures c.if-goes.false))))
          (c.in_ok-sent-2.ensures.counts (candidates_in old) c.requires.informed.counts);
    }
