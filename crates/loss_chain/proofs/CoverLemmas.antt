-- The rows below a deletion stage, after a change above or below.
use Rattle.std.proofs.Common.{◌≡◌, Bool, true, false, cond, Option, Some, None, IsSome, is_some, refl, sym, ap, subst, ◌∙◌}
use Rattle.std.specs.Ordering.{eq_by_cmp}
use Rattle.std.specs.FinMap as map
use Rattle.std.specs.FinMap.{FinMap}
use Rattle.addr4.specs.Prefixes.{AddressPrefix, prefix_cmp}
use Rattle.link_change.specs.Rows.{Rows, no_rows, with_row}
use Rattle.link_change.specs.Changes.{IsSent, IsChangeOf}
use Rattle.link_change.specs.Changes.{Change}
use Rattle.link_change.proofs.RowLemmas.{same_function, with_row_same, rows_removed, empty_rows}
use Rattle.link_change.proofs.ChangeLemmas.{change_sent}
use Rattle.loss_chain.specs.Covering.{row_over, covered, AreApart}

module _ {R : Type 0} where
  row_over_cond : (b : Bool) (t u new : Option R) → row_over (cond b None t) (cond b new u) ≡ cond b new (row_over t u)
  row_over_cond true t u new = refl
  row_over_cond false t u new = refl

  -- a change above goes on below, and the table gives its row there up
  covered_change : (table upper : Rows R) (p : AddressPrefix) (new : Option R) → covered (with_row table p None) (with_row upper p new) ≡ with_row (covered table upper) p new
  covered_change table upper p new = same_function _ _ (λ q. row_over_cond (eq_by_cmp prefix_cmp q p) (table q) (upper q) new)

  apart_cond : (b : Bool) (t u new : Option R) → (IsSome t → u ≡ None) → IsSome (cond b None t) → cond b new u ≡ None
  apart_cond true t u new h is = absurd (let e : false ≡ true = is in cc)
  apart_cond false t u new h is = h is

  apart_change : (table upper : Rows R) (p : AddressPrefix) (new : Option R) → AreApart table upper → AreApart (with_row table p None) (with_row upper p new)
  apart_change table upper p new h q = apart_cond (eq_by_cmp prefix_cmp q p) (table q) (upper q) new (h q)

  -- the rows below after a change above, where the table loses the prefix
  pub covered_after : (old new : FinMap prefix_cmp R) (upper now : Rows R) (p : AddressPrefix) (change : Change R) → new ≡ map.remove old change.prefix → IsSent upper now p (Some change)
      → covered (map.get new) now ≡ with_row (covered (map.get old) upper) change.prefix change.after
  covered_after old new upper now p change new_is sent =
      ap (λ (m : FinMap prefix_cmp R). covered (map.get m) now) new_is ∙ ap (λ (t : Rows R). covered t now) (rows_removed old change.prefix)
      ∙ ap (λ (u : Rows R). covered (with_row (map.get old) change.prefix None) u) sent.2 ∙ covered_change (map.get old) upper change.prefix change.after

  pub apart_after : (old new : FinMap prefix_cmp R) (upper now : Rows R) (p : AddressPrefix) (change : Change R) → new ≡ map.remove old change.prefix → IsSent upper now p (Some change)
      → AreApart (map.get old) upper → AreApart (map.get new) now
  apart_after old new upper now p change new_is sent h =
      let P : Rows R → Type 0 = λ t. AreApart t now in
      let Q : Rows R → Type 0 = λ u. AreApart (with_row (map.get old) change.prefix None) u in
      subst P (sym (ap map.get new_is ∙ rows_removed old change.prefix)) (subst Q (sym sent.2) (apart_change (map.get old) upper change.prefix change.after h))

  -- a change passes as it is where the table has no row
  pub passes : (old new : FinMap prefix_cmp R) (upper now : Rows R) (p : AddressPrefix) (change : Change R) → new ≡ map.remove old change.prefix → map.get old change.prefix ≡ None → IsSent upper now p (Some change)
      → IsSent (covered (map.get old) upper) (covered (map.get new) now) p (Some change)
  passes old new upper now p change new_is none sent = (sent.0, (ap (λ o. row_over o (upper change.prefix)) none ∙ sent.1.0, sent.1.1), covered_after old new upper now p change new_is sent)

  -- where the table has one, that is the row before
  pub replaces : (old new : FinMap prefix_cmp R) (upper now : Rows R) (p : AddressPrefix) (change : Change R) (held : R) (result : Option (Change R)) → new ≡ map.remove old change.prefix → map.get old change.prefix ≡ Some held → IsChangeOf change.prefix (Some held) change.after result → IsSent upper now p (Some change)
      → IsSent (covered (map.get old) upper) (covered (map.get new) now) p result
  replaces old new upper now p change held result new_is at is sent =
      subst (λ k. IsSent (covered (map.get old) upper) (covered (map.get new) now) k result) sent.0
      (change_sent _ _ change.prefix (Some held) change.after result (ap (λ o. row_over o (upper change.prefix)) at) (covered_after old new upper now p change new_is sent) is)

  -- to take a row out of the table deletes it below
  pub covered_delete : (old new : FinMap prefix_cmp R) (upper : Rows R) (p : AddressPrefix) (row : R) → map.get old p ≡ Some row → new ≡ map.remove old p → AreApart (map.get old) upper
      → covered (map.get new) upper ≡ with_row (covered (map.get old) upper) p None
  covered_delete old new upper p row at new_is apart =
      let bare = apart p (ap is_some at) in
      ap (λ (m : FinMap prefix_cmp R). covered (map.get m) upper) new_is ∙ ap (λ (r : Rows R). covered r upper) (rows_removed old p)
      ∙ ap (λ (u : Rows R). covered (with_row (map.get old) p None) u) (sym (with_row_same upper p None bare)) ∙ covered_change (map.get old) upper p None

  pub apart_delete : (old new : FinMap prefix_cmp R) (upper : Rows R) (p : AddressPrefix) (row : R) → map.get old p ≡ Some row → new ≡ map.remove old p → AreApart (map.get old) upper → AreApart (map.get new) upper
  apart_delete old new upper p row at new_is apart =
      let bare = apart p (ap is_some at) in
      let P : Rows R → Type 0 = λ r. AreApart r upper in
      let Q : Rows R → Type 0 = λ u. AreApart (with_row (map.get old) p None) u in
      subst P (sym (ap map.get new_is ∙ rows_removed old p)) (subst Q (with_row_same upper p None bare) (apart_change (map.get old) upper p None apart))

  -- the delete of a row that is taken out of the table
  pub deletes : (old new : FinMap prefix_cmp R) (upper : Rows R) (p : AddressPrefix) (row : R) → map.get old p ≡ Some row → new ≡ map.remove old p → AreApart (map.get old) upper
      → IsSent (covered (map.get old) upper) (covered (map.get new) upper) p (Some (record { prefix = p; before = Some row; after = None })) × AreApart (map.get new) upper
  deletes old new upper p row at new_is apart =
      ((refl, (ap (λ o. row_over o (upper p)) at, λ e. cc), covered_delete old new upper p row at new_is apart), apart_delete old new upper p row at new_is apart)

  row_over_none : (t : Option R) → row_over t None ≡ t
  row_over_none None = refl
  row_over_none (Some v) = refl

  pub covered_nothing : (table : Rows R) → covered table no_rows ≡ table
  covered_nothing table = same_function _ _ (λ q. row_over_none (table q))

  -- an empty table covers nothing
  pub nothing_covers : (t : FinMap prefix_cmp R) (upper : Rows R) → t ≡ map.empty → covered (map.get t) upper ≡ upper
  nothing_covers t upper e = ap (λ (r : Rows R). covered r upper) (ap map.get e ∙ empty_rows)
