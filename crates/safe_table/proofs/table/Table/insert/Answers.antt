use Rattle.std.proofs.Common.{◌+◌, ◌∙◌, cond, sym, ap, subst}
use Rattle.std.specs.FinMap as map
use Rattle.nibble_trie.specs.Contents.{HasKey}
use Rattle.safe_table.specs.Fields.{IsSound}
use Rattle.safe_table.proofs.Keeping.{get-live, sound_put, rows_put, no_row, has_live, not_err}
use Rattle.safe_table.proofs.table.Table.insert.Goals as goal

pub invariant_of-self-2 : goal.invariant_of-self-2
invariant_of-self-2 g c =
    let e = c.in_ok-before.ensures in
    let whole = sound_put c.self.inside.trie.rows c.put.new.trie.rows c.self.inside.places.slots c.self.inside.count c.args.prefix c.args.row c.in_ok-before.before c.self.invariant e.ok e.before in
    subst (IsSound c.put.new.trie.rows c.self.inside.places.slots) (sym (c.with_row-self-inside.ensures ∙ ap (λ b. cond b c.self.inside.count (c.self.inside.count + 1)) c.is_some.ensures)) whole

pub returns-clause-before : goal.returns-clause-before
returns-clause-before g c = c.in_ok-before.ensures.before ∙ sym (get-live c.self.inside.trie.rows c.args.prefix) ∙ ap (λ v. map.get v.rows c.args.prefix) c.self.view_is

pub returns-clause-ok : goal.returns-clause-ok
returns-clause-ok g c = rows_put c.self.inside.trie.rows c.put.new.trie.rows c.args.prefix c.args.row c.in_ok-before.ensures.ok ∙ ap (λ v. map.insert v.rows c.args.prefix c.args.row) c.self.view_is

pub returns-then-not-fits-clause-succeeds : goal.returns-then-not-fits-clause-succeeds
returns-then-not-fits-clause-succeeds g c = λ has. absurd (no_row c.self.inside.trie.rows c.args.prefix (subst (λ v. HasKey v.rows c.args.prefix) (sym c.self.view_is) has) (c.fits.ensures.none c.if-not-fits.true))

pub returns-in_err-before-clause-succeeds : goal.returns-in_err-before-clause-succeeds
returns-in_err-before-clause-succeeds g c = λ has. absurd (not_err _ _ c.in_err-before.was (c.put.ensures.succeeds (has_live c.self.inside.trie.rows c.args.prefix (subst (λ v. HasKey v.rows c.args.prefix) (sym c.self.view_is) has))))
