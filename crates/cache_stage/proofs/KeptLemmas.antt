-- What a cache keeps after a change.
use Rattle.std.proofs.Common.{◌≡◌, Option, Some, None, sym, ap, subst, ◌∙◌}
use Rattle.std.specs.FinMap as map
use Rattle.std.specs.FinMap.{FinMap}
use Rattle.addr4.specs.Prefixes.{AddressPrefix, prefix_cmp}
use Rattle.link_change.specs.Rows.{Rows, with_row}
use Rattle.link_change.specs.Changes.{IsLawfulOn}
use Rattle.link_change.specs.Changes.{Change}
use Rattle.link_change.proofs.RowLemmas.{rows_inserted, rows_removed}
use Rattle.cache_stage.specs.Caches.{kept_after, CachesOn}

module _ {R : Type 0} where
  rows_kept : (m : FinMap prefix_cmp R) (p : AddressPrefix) (after : Option R) → map.get (kept_after m p after) ≡ with_row (map.get m) p after
  rows_kept m p None = rows_removed m p
  rows_kept m p (Some row) = rows_inserted m p row

  pub keeps : (old new : FinMap prefix_cmp R) (change : Change R) → new ≡ kept_after old change.prefix change.after → CachesOn old new change change
  keeps old new change is upper now p sent has =
      let kept = ap map.get is ∙ rows_kept old change.prefix change.after in
      let P : Rows R → Type 0 = λ u. IsLawfulOn u change in
      ((sent.0, subst P (sym has) sent.1, kept), kept ∙ ap (λ (u : Rows R). with_row u change.prefix change.after) has ∙ sym sent.2)
