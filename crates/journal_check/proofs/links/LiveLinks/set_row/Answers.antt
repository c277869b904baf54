use Rattle.std.proofs.Common.{Some, is_some, sym, ap, ◌∙◌}
use Rattle.std.specs.FinMap as map
use Rattle.link_change.proofs.MapLemmas.{read_in, map_set}
use Rattle.link_change.proofs.RowLemmas.{rows_inserted}
use Rattle.journal_check.specs.Maps.{key_cmp, key_of}
use Rattle.journal_check.proofs.KeyLemmas.{keys_total, exact_keys}
use Rattle.journal_check.proofs.StepLemmas.{row_set, row_unset}
use Rattle.journal_check.proofs.links.LiveLinks.set_row.Goals as goal

pub returns-in_default : goal.returns-in_default
returns-in_default c =
    let same = ap (λ m. map.from_entries {R = key_cmp} m.entries) c.get_mut.follows.holds-at-none ∙ c.self.view_is in
    row_unset c.args.self.now _ c.args.link c.args.p (Some c.args.text) same
    (read_in keys_total c.self.inside.maps c.args.self.now (key_of c.args.link) c.self.view_is ∙ sym (rw c.key_of.ensures at c.in_default.ensures.value))

pub returns : goal.returns
returns c =
    let there = c.in-Some.ensures.value in
    let key = key_of c.args.link in
    row_set c.args.self.now _ c.args.link c.in-Some.rows.now c.put.new.self c.args.p (Some c.args.text)
    (rw c.key_of.ensures at there ∙ sym (read_in keys_total c.self.inside.maps c.args.self.now key c.self.view_is))
    (ap map.get c.in_ok-put.ensures ∙ rows_inserted c.in-Some.rows.now c.args.p c.args.text)
    (map_set keys_total exact_keys c.self.inside.maps (c.get_mut.follows.lender c.put.new.self) c.args.self.now key c.put.new.self c.self.view_is
    (rw c.key_of.ensures at ((c.get_mut.follows.holds c.put.new.self).3 (ap is_some (sym there))).0))
