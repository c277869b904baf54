use Rattle.std.proofs.Common.{◌≡◌, ◌∙◌, sym, ap, arith}
use Rattle.std.proofs.lemmas.Bool.Decides.{nat_tests}
use Rattle.std.specs.FinMap.{empty_of_len}
use Rattle.safe_table.specs.Fields.{live_rows}
use Rattle.safe_table.proofs.Keeping.{len_of_empty}
use Rattle.safe_table.proofs.table.Table.is_empty.Goals as goal

pub returns : goal.returns
returns g c =
    let rows = live_rows c.self.inside.trie.rows in
    let same = ap (λ v. v.rows) c.self.view_is in (
      λ t. sym same ∙ empty_of_len rows (sym c.self.invariant.counts ∙ grind (arith, nat_tests)),
      λ e. let none : c.self.inside.count ≡ 0 = c.self.invariant.counts ∙ len_of_empty rows (same ∙ e) in grind (arith, nat_tests),
    )
