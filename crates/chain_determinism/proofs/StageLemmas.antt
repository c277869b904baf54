-- The row that the stage of a loss takes.
use Rattle.std.proofs.Common.{◌≡◌, true, false, Option, Some, IsSome, sym, ap, subst, ◌∙◌}
use Rattle.std.proofs.lemmas.Option.{same_Some}
use Rattle.std.specs.FinMap as map
use Rattle.std.specs.FinMap.{FinMap}
use Rattle.addr4.specs.Prefixes.{AddressPrefix, prefix_cmp, ComesBefore}
use Rattle.addr4.proofs.RankLemmas.{one_first}
use Rattle.link_change.specs.Rows.{Rows}
use Rattle.stage_determinism.proofs.OneLemmas.{same_or_never}
use Rattle.loss_chain.specs.Covering.{IsLeastRow}
use Rattle.chain_determinism.specs.Laws.{LeastRowIsOne, StageRowIsOne}

module _ {R : Type 0} where
  -- no row stands before the least one
  none_before : (rows : Rows R) (p q : AddressPrefix) (one other : Option R) → IsLeastRow rows p one → IsLeastRow rows q other → ComesBefore q p → ⊥
  none_before rows p q one other first second before =
      let clash : true ≡ false = sym (subst (λ (row : Option R). IsSome row) (sym second.0 ∙ first.2 q before) second.1) in cc

  -- so there is one least row alone,
  pub least_row_is_one : LeastRowIsOne R
  least_row_is_one rows p q one other first second =
      let same : p ≡ q = same_or_never p q (λ apart. none_before rows q p other one second first (one_first p q apart (none_before rows p q one other first second))) in
      (same, sym first.0 ∙ ap rows same ∙ second.0)

  -- and one that the stage of a loss takes
  pub stage_row_is_one : StageRowIsOne R
  stage_row_is_one number ds table other_table p q row other_row stands also first second =
      let same : table ≡ other_table = same_Some table other_table (sym stands ∙ also) in
      let least = least_row_is_one (map.get table) p q (Some row) (Some other_row) first (subst (λ (t : FinMap prefix_cmp R). IsLeastRow (map.get t) q (Some other_row)) (sym same) second) in
      (same, least.0, same_Some row other_row least.1)
