use Rattle.std.proofs.Common.{ap, sym, ◌∙◌}
use Rattle.std.specs.FinMap as map
use Rattle.addr4.specs.Prefixes.{prefix_cmp}
use Rattle.addr4.proofs.PrefixOrder.{prefixes_total}
use Rattle.journal_check.proofs.EntryLemmas.{rows_decide, same_entries_of}
use Rattle.journal_check.proofs.rows.TextRowsRow.same.Goals as goal

pub returns : goal.returns
returns c =
    let es = c.self.inside.texts.entries in
    let fs = c.other.inside.texts.entries in (
      λ h. sym c.self.view_is ∙ (ap (λ r. map.from_entries {R = prefix_cmp} r) ((rows_decide es fs).0 (sym c.eq.ensures ∙ h)) ∙ c.other.view_is),
      λ e. c.eq.ensures ∙ (rows_decide es fs).1 (same_entries_of prefixes_total es fs c.len-count.ensures.ordered c.len-other_count.ensures.ordered (c.self.view_is ∙ (e ∙ sym c.other.view_is))),
    )
