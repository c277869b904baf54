-- The rows below lost tables, after changes above.
use Rattle.std.proofs.Common.{◌≡◌, ◌≢◌, ◌||◌, true, false, List, [], ◌∷◌, Option, Some, None, IsSome, is_some, refl, sym, ap, subst, ◌∙◌}
use Rattle.std.specs.FinMap as tables
use Rattle.std.specs.FinMap.{FinMap}
use Rattle.addr4.specs.Prefixes.{AddressPrefix, prefix_cmp}
use Rattle.link_change.specs.Rows.{Rows, with_rows, together, Candidates, IsNextCandidate}
use Rattle.link_change.specs.Changes.{IsSent}
use Rattle.link_change.specs.Changes.{Change}
use Rattle.link_change.proofs.RowLemmas.{remove_absent, rows_inserted, same_function, with_row_here}
use Rattle.loss_chain.specs.Lost.{Lost}
use Rattle.loss_chain.specs.Covering.{row_over, covered, AreApart}
use Rattle.loss_chain.specs.Tables.{Tables, rows_below, lowest_rows}
use Rattle.loss_chain.specs.Steps.{fed_tables, without}
use Rattle.loss_chain.specs.Parts.{lowered}

module _ {R : Type 0} where
  -- a table that is apart from the rows above has no row where one goes
  pub not_held : (t : FinMap prefix_cmp R) (upper now : Rows R) (p : AddressPrefix) (change : Change R) → AreApart (tables.get t) upper → IsSent upper now p (Some change) → change.before ≢ None → tables.get t change.prefix ≡ None
  not_held t upper now p change apart is there =
      elim (tables.get t change.prefix) as (λ o. tables.get t change.prefix ≡ o → o ≡ None) [
        | None ↦ λ _. refl
        | Some v ↦ λ e. absurd (there (sym is.1.0 ∙ apart change.prefix (ap is_some e)))
      ] refl

  -- nor where one shows
  pub absent_below : (t : FinMap prefix_cmp R) (upper : Rows R) (p : AddressPrefix) → AreApart (tables.get t) upper → IsSome (upper p) → tables.get t p ≡ None
  absent_below t upper p apart is =
      elim (tables.get t p) as (λ o. tables.get t p ≡ o → o ≡ None) [
        | None ↦ λ _. refl
        | Some v ↦ λ e. absurd (let none = apart p (ap is_some e) in let clash : true ≡ false = sym is ∙ ap is_some none in cc)
      ] refl

  row_over_some : (t o : Option R) → IsSome o → IsSome (row_over t o)
  row_over_some None o h = h
  row_over_some (Some w) o h = refl

  -- a live row shows below, itself or by an older one over it
  pub shown : (live : FinMap prefix_cmp R) (ds : List (Lost R)) (p : AddressPrefix) → IsSome (tables.get live p) → IsSome (rows_below live ds p)
  shown live [] p is = is
  shown live (d ∷ ds) p is = row_over_some (tables.get d.rows p) (rows_below live ds p) (shown live ds p is)

  pub same_lost : (d new : Lost R) (p : AddressPrefix) → new.number ≡ d.number → new.rows ≡ tables.remove d.rows p → tables.get d.rows p ≡ None → new ≡ d
  same_lost d new p numbers rows none = let kept : new.rows ≡ d.rows = rows ∙ remove_absent d.rows p none in λ i. record { number = numbers i; rows = kept i }

  -- a feed that sends nothing into a deletion stage takes nothing from its table
  pub fed_kept : (p : AddressPrefix) (row : Option R) (d : Lost R) (c new : Tables R) → AreApart (tables.get d.rows) (lowest_rows c) → new ≡ fed_tables c p row → lowest_rows new ≡ lowest_rows c → lowered d new ≡ fed_tables (lowered d c) p row
  fed_kept p None d c new apart is same = ap (lowered d) is
  fed_kept p (Some a) d c new apart is same =
      let live : tables.get new.live p ≡ Some a = ap (λ (x : Tables R). tables.get x.live p) is ∙ ap (λ (r : Rows R). r p) (rows_inserted c.live p a) ∙ with_row_here (tables.get c.live) p (Some a) in
      let there : IsSome (lowest_rows c p) = ap is_some (ap (λ (r : Rows R). r p) (sym same)) ∙ shown new.live new.deletions p (ap is_some live) in
      let none = absent_below d.rows (lowest_rows c) p apart there in
      ap (lowered d) is ∙ ap (λ (x : Lost R). lowered x (fed_tables c p (Some a))) (sym (same_lost d (without p d) p refl refl none))

  -- a change goes through a deletion stage
  pub fed_taken : (p : AddressPrefix) (row : Option R) (d after : Lost R) (c new : Tables R) (change : Change R) → AreApart (tables.get d.rows) (lowest_rows c)
      → after.number ≡ d.number → after.rows ≡ tables.remove d.rows change.prefix → IsSent (lowest_rows c) (lowest_rows new) p (Some change) → change.after ≡ row → new ≡ fed_tables c p row
      → lowered after new ≡ fed_tables (lowered d c) p row
  fed_taken p None d after c new change apart numbers rows sent new_row is =
      let none = not_held d.rows (lowest_rows c) (lowest_rows new) p change apart sent (λ none. sent.1.1 (new_row ∙ sym none)) in
      ap (lowered after) is ∙ ap (λ (x : Lost R). lowered x (fed_tables c p None)) (same_lost d after change.prefix numbers rows none)
  fed_taken p (Some a) d after c new change apart numbers rows sent new_row is =
      let kept : after.rows ≡ tables.remove d.rows p = rows ∙ ap (tables.remove d.rows) sent.0 in
      let e : after ≡ without p d = λ i. record { number = numbers i; rows = kept i } in
      ap (lowered after) is ∙ ap (λ (x : Lost R). lowered x (fed_tables c p (Some a))) e

  some_over : (t o : Option R) → (is_some t || is_some o) ≡ is_some (row_over t o)
  some_over None o = refl
  some_over (Some v) o = refl

  -- a walk below goes where one of the table or one above goes
  pub next_below : (table upper : Rows R) (after result : Option AddressPrefix) → IsNextCandidate (together (with_rows table) (with_rows upper)) after result → IsNextCandidate (with_rows (covered table upper)) after result
  next_below table upper after result next =
      subst (λ (cs : Candidates). IsNextCandidate cs after result) (same_function _ _ (λ q. some_over (table q) (upper q))) next
