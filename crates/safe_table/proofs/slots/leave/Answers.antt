use Rattle.std.proofs.Common.{◌≡◌, ◌∙◌, ◌-◌, None, is_some, sym, ap, inl, arith}
use Rattle.safe_table.proofs.Maps.{remove-insert, same_slot, none_of}
use Rattle.safe_table.proofs.slots.leave.Goals as goal

pub returns-then-not-has_row : goal.returns-then-not-has_row
returns-then-not-has_row g c = λ s found.
    let slot = c.value_near-slot.result.now in
    let same : slot ≡ s = same_slot _ _ (sym c.value_near-slot.ensures.value ∙ found) in
    let none : slot.value ≡ None = none_of slot.value (ap (λ x. is_some x.value) (sym c.leave.ensures) ∙ sym c.has_row.ensures ∙ c.if-not-has_row.true) in
    let last : slot.readers - 1 ≡ 0 = ap (λ x. x.readers) (sym c.leave.ensures) ∙ sym c.readers.ensures ∙ c.if-readers-eq0.true in
    inl (c.remove.ensures.rows ∙ remove-insert c.args.trie.now.rows c.args.prefix _, sym (ap (λ x. x.value) same) ∙ none, omega (arith, ap (λ x. x.readers) same, c.requires.stands s found, last))
