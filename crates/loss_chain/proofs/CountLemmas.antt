-- How many rows tables have together, where no prefix has a row in two of them.
use Rattle.std.proofs.Common.{◌≡◌, ℕ, ◌+◌, cond, zero, suc, List, [], ◌∷◌, length, Some, None, is_some, refl, sym, ap, subst, ◌∙◌, arith}
use Rattle.std.specs.Ordering.{eq_by_cmp}
use Rattle.std.specs.FinMap as tables
use Rattle.std.specs.FinMap.{FinMap, get-entries, len-entries, len-insert, empty_of_len, find}
use Rattle.addr4.specs.Prefixes.{AddressPrefix, prefix_cmp}
use Rattle.addr4.proofs.PrefixOrder.{prefixes_total, by_prefix, itself}
use Rattle.link_change.specs.Rows.{Rows, with_row}
use Rattle.link_change.proofs.RowLemmas.{same_function, rows_inserted, rows_removed, with_row_here}
use Rattle.loss_chain.specs.Lost.{Lost}
use Rattle.loss_chain.specs.Covering.{row_over, covered, AreApart}
use Rattle.loss_chain.proofs.CoverLemmas.{nothing_covers, apart_delete}
use Rattle.loss_chain.specs.Tables.{rows_below, AreAllApart, lost_count}
use Rattle.loss_chain.specs.Laws.{Counts}
use Rattle.loss_chain.proofs.TurnLemmas.{one_less}

module _ {R : Type 0} where
  first_of : (n : ℕ) (es : List (AddressPrefix × R)) → length es ≡ n + 1 → (e : AddressPrefix × R) × (find prefix_cmp e.0 es ≡ Some e.1)
  first_of n [] is = absurd (omega (arith, is))
  first_of n (e ∷ es) is = (e, ap (λ b. cond b (Some e.1) (find prefix_cmp e.0 es)) (itself e.0))

  -- a table that isn't empty has a row
  a_row : (t : FinMap prefix_cmp R) (n : ℕ) → tables.len t ≡ n + 1 → (e : AddressPrefix × R) × (tables.get t e.0 ≡ Some e.1)
  a_row t n is =
      let first = first_of n (tables.entries t) (sym (len-entries t) ∙ is) in
      (first.0, get-entries t first.0.0 ∙ first.1)

  one_more : (t : FinMap prefix_cmp R) (p : AddressPrefix) (row : R) → tables.get t p ≡ None → tables.len (tables.insert t p row) ≡ tables.len t + 1
  one_more t p row none = len-insert prefixes_total t p row ∙ ap (λ o. cond (is_some o) (tables.len t) (tables.len t + 1)) none

  -- a row that is taken out, put over the rest, gives all
  put_back : (t : FinMap prefix_cmp R) (upper : Rows R) (p : AddressPrefix) (row : R) → tables.get t p ≡ Some row → with_row (covered (tables.get (tables.remove t p)) upper) p (Some row) ≡ covered (tables.get t) upper
  put_back t upper p row at = same_function _ _ (λ q.
      ap (λ (r : Rows R). cond (eq_by_cmp prefix_cmp q p) (Some row) (row_over (r q) (upper q))) (rows_removed t p)
      ∙ by_prefix q p (λ b. cond b (Some row) (row_over (cond b None (tables.get t q)) (upper q)) ≡ row_over (tables.get t q) (upper q))
      (λ e. ap (λ o. row_over o (upper q)) (sym (ap (tables.get t) e ∙ at))) (λ _. refl))

  -- one table over another
  both : (n : ℕ) (t m : FinMap prefix_cmp R) → tables.len t ≡ n → AreApart (tables.get t) (tables.get m) → Counts (covered (tables.get t) (tables.get m)) (n + tables.len m)
  both zero t m is apart = (m, sym (nothing_covers t (tables.get m) (empty_of_len t is)), omega arith)
  both (suc n) t m is apart =
      let found = a_row t n (is ∙ omega arith) in
      let p = found.0.0 in
      let row = found.0.1 in
      let less = one_less t p row found.1 in
      let rest = both n (tables.remove t p) m (omega (arith, less, is)) (apart_delete t (tables.remove t p) (tables.get m) p row found.1 refl apart) in
      let gone : tables.get (tables.remove t p) p ≡ None = ap (λ (r : Rows R). r p) (rows_removed t p) ∙ with_row_here (tables.get t) p None in
      let none : tables.get rest.0 p ≡ None = ap (λ (r : Rows R). r p) rest.1 ∙ ap (λ o. row_over o (tables.get m p)) gone ∙ apart p (ap is_some found.1) in
      let more = one_more rest.0 p row none in
      let count = rest.2 in (
        tables.insert rest.0 p row,
        rows_inserted rest.0 p row ∙ ap (λ (r : Rows R). with_row r p (Some row)) rest.1 ∙ put_back t (tables.get m) p row found.1,
        omega (arith, more, count),
      )

  pub counted : (live : FinMap prefix_cmp R) (ds : List (Lost R)) → AreAllApart live ds → Counts (rows_below live ds) (tables.len live + lost_count ds)
  counted live [] apart = (live, refl, omega arith)
  counted live (d ∷ ds) apart =
      let above = counted live ds apart.1 in
      let all = both (tables.len d.rows) d.rows above.0 refl (subst (λ (r : Rows R). AreApart (tables.get d.rows) r) (sym above.1) apart.0) in
      let upper_count = above.2 in
      let all_count = all.2 in
      (all.0, all.1 ∙ ap (covered (tables.get d.rows)) above.1, omega (arith, upper_count, all_count))
