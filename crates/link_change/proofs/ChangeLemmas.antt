-- The change of one row: in rows that are computed from those above, and in a table that is a link's map.
use Rattle.std.proofs.Common.{◌≡◌, ◌↔◌, true, false, cond, Option, Some, None, IsNone, IfSome, refl, sym, ap, subst, ◌∙◌}
use Rattle.std.specs.FinMap as map
use Rattle.std.specs.FinMap.{FinMap}
use Rattle.addr4.specs.Prefixes.{AddressPrefix, prefix_cmp}
use Rattle.addr4.proofs.PrefixOrder.{by_prefix}
use Rattle.link_change.specs.Rows.{Rows, with_row, computed_rows}
use Rattle.link_change.specs.Changes.{IsSent, IsChangeOf, ComputesOn}
use Rattle.link_change.specs.Changes.{Change}
use Rattle.link_change.proofs.RowLemmas.{same_function, with_row_same, rows_inserted, rows_removed}

-- the change of one row is what leads from the old rows to those with the new one
pub change_sent :
    {R : Type 0} (old new : Rows R) (p : AddressPrefix) (before after : Option R) (result : Option (Change R)) →
    old p ≡ before → new ≡ with_row old p after → IsChangeOf p before after result → IsSent old new p result
change_sent old new p before after None at new_is is = new_is ∙ with_row_same old p after (at ∙ sym is)
change_sent {R} old new p before after (Some change) at new_is is =
    let P : AddressPrefix → Type 0 = λ k. new ≡ with_row old k change.after in
    let Q : Option R → Type 0 = λ row. new ≡ with_row old p row in
    (is.0, (ap old is.0 ∙ at ∙ sym is.1, λ same. is.3 (sym is.2 ∙ same ∙ is.1)), subst P (sym is.0) (subst Q (sym is.2) new_is))

module _ {A B : Type 0} (f : AddressPrefix → Option A → Option B) where
  -- computed rows change where those above do
  pub computed_set : (upper : Rows A) (p : AddressPrefix) (row : Option A)
      → computed_rows f (with_row upper p row) ≡ with_row (computed_rows f upper) p (f p row)
  computed_set upper p row = same_function _ _ (λ q.
      by_prefix q p (λ b. f q (cond b row (upper q)) ≡ cond b (f p row) (f q (upper q))) (λ e. ap (λ k. f k row) e) (λ _. refl))

  -- by the change of the computed row
  pub computes_on : (change : Change A) (before after : Option B) (result : Option (Change B))
      → before ≡ f change.prefix change.before → after ≡ f change.prefix change.after
      → IsChangeOf change.prefix before after result → ComputesOn f change result
  computes_on change before after result b a is upper now p sent =
      subst (λ k. IsSent (computed_rows f upper) (computed_rows f now) k result) sent.0
      (change_sent _ _ change.prefix before after result (ap (f change.prefix) sent.1.0 ∙ sym b)
      (ap (computed_rows f) sent.2 ∙ computed_set upper change.prefix change.after
      ∙ ap (with_row (computed_rows f upper) change.prefix) (sym a)) is)

module _ {V : Type 0} where
  -- a row is put into a table
  pub sends_insert : (old new : FinMap prefix_cmp V) (p : AddressPrefix) (before : Option V) (row : V) (sent : Option (Change V))
      → new ≡ map.insert old p row → before ≡ map.get old p → IsChangeOf p before (Some row) sent → IsSent (map.get old) (map.get new) p sent
  sends_insert old new p before row sent new_is at is = change_sent _ _ p before (Some row) sent (sym at) (ap map.get new_is ∙ rows_inserted old p row) is

  -- a row is taken out
  pub sends_remove : (old new : FinMap prefix_cmp V) (p : AddressPrefix) (before : Option V) (sent : Option (Change V))
      → new ≡ map.remove old p → before ≡ map.get old p → IsChangeOf p before None sent → IsSent (map.get old) (map.get new) p sent
  sends_remove old new p before sent new_is at is = change_sent _ _ p before None sent (sym at) (ap map.get new_is ∙ rows_removed old p) is

  -- nothing is sent exactly where the row stays the same, and what is sent has the row after
  pub none_if_same : (p : AddressPrefix) (before after : Option V) (sent : Option (Change V)) → IsChangeOf p before after sent → IsNone sent ↔ (before ≡ after)
  none_if_same p before after None is = (λ _. sym is, λ _. refl)
  none_if_same p before after (Some change) is = (λ none. absurd (let e : true ≡ false = none in cc), λ same. absurd (is.3 (sym same)))

  pub sent_after : (p : AddressPrefix) (before after : Option V) (sent : Option (Change V)) → IsChangeOf p before after sent → IfSome sent (λ change. change.after ≡ after)
  sent_after p before after None is = tt
  sent_after p before after (Some change) is = is.2
