use Rattle.std.proofs.Common.{◌≡◌, ◌∙◌, is_some, sym, ap}
use Rattle.std.specs.FinMap as map
use Rattle.safe_table.specs.Fields.{live_rows, live_value}
use Rattle.safe_table.proofs.Keeping.{get-live}
use Rattle.safe_table.proofs.slots.next_slot.Goals as goal

pub returns-in-Some-clause-live : goal.returns-in-Some-clause-live
returns-in-Some-clause-live g c =
    let m = c.args.trie.now.rows in
    let e : is_some (map.get (live_rows m) c.in-Some.row.0) ≡ c.has_row.result = ap is_some (get-live m c.in-Some.row.0 ∙ ap live_value c.in-Some.ensures.value) ∙ sym c.has_row.ensures in
    (λ t. e ∙ t, λ h. sym e ∙ h)
