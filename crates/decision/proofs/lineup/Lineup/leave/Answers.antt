use Rattle.std.proofs.Common.{sym, ◌∙◌}
use Rattle.decision.proofs.Parts.{place_of, place_within, left_line, same_line, not_some}
use Rattle.decision.proofs.lineup.Lineup.leave.Goals as goal

pub cut-requires-clause-place : goal.cut-requires-clause-place
cut-requires-clause-place g c =
    let l = c.requires.lined in
    (place_within c.args.branch c.args.row.now l.here c.args.self.now c.place-place.result c.requires.small (sym c.is_some.ensures ∙ c.if-is_some.true)
    (c.place-place.ensures ∙ place_of c.args.branch c.args.row.now l.here c.args.self.now c.requires.small l.lined) l.lined).0

pub cut-requires-clause-beside : goal.cut-requires-clause-beside
cut-requires-clause-beside g c =
    let l = c.requires.lined in
    (place_within c.args.branch c.args.row.now l.here c.args.self.now c.place-place.result c.requires.small (sym c.is_some.ensures ∙ c.if-is_some.true)
    (c.place-place.ensures ∙ place_of c.args.branch c.args.row.now l.here c.args.self.now c.requires.small l.lined) l.lined).1

pub returns-then-is_some : goal.returns-then-is_some
returns-then-is_some g c = λ here lined.
    let own = c.args.row.now in
    let at = c.place-place.ensures ∙ place_of c.args.branch own here c.args.self.now c.requires.small lined in
    record {
      lined = left_line c.args.branch own here c.args.self.now c.cut.new.self c.place-place.result c.requires.small (sym c.is_some.ensures ∙ c.if-is_some.true) at lined
          c.cut.ensures.candidates c.cut.ensures.branches;
      behind = at;
    }

pub returns-else-is_some : goal.returns-else-is_some
returns-else-is_some g c = λ here lined.
    let own = c.args.row.now in
    record {
      lined = same_line c.args.branch own here c.args.self.now (not_some own (sym c.is_some.ensures ∙ c.if-is_some.false)) lined;
      behind = c.place-place.ensures ∙ place_of c.args.branch own here c.args.self.now c.requires.small lined;
    }
