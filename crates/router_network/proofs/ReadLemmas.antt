-- Lookups in what reads `best`.
use Rattle.router_moments.proofs.Common.{sym, ◌∙◌, ap, ◌≡◌, ℕ, same_Some, AddressPrefix, Route, read_rows, route_value, route_rows, Links, HasRow, Link, Value, Rows, Candidates, IsNextCandidate, CoversRows, Moment, best_of, read_by, read_links}
use Rattle.std.proofs.Common.{Option, Some}
use Rattle.std.specs.Prelude.{option_map}
use Rattle.journal_text.specs.declared.link.Link.TheVariants.{ReadRib}
use Rattle.exit_side.specs.Exits.{exit_links}
use Rattle.router_moments.specs.Lookups.{IsNextPlace}

module _ (m v : Moment) (lent : Rows Route) (lent_is : lent ≡ best_of m) (view : v ≡ m) where
  -- ---- links of exits
  pub sent_links : exit_links v.exits lent ≡ exit_links m.exits (best_of m)
  sent_links = ap (exit_links v.exits) lent_is ∙ ap (λ (x : Moment). exit_links x.exits (best_of m)) view

  pub sent_next : (link : Link) (place result : Option AddressPrefix) (candidates : Candidates) → IsNextCandidate candidates place result → ((rows : Rows Value) → exit_links v.exits lent link ≡ Some rows → CoversRows candidates rows)
      → IsNextPlace (exit_links m.exits (best_of m) link) place result
  sent_next link place result candidates next covers = (candidates, next, λ rows is. covers rows (ap (λ (l : Links Value). l link) sent_links ∙ is))

  -- ---- `read.rib`
  read_is : (r : ℕ) → v.reader ≡ Some r → read_by m.exits.queue m.reader (best_of m) ≡ Some (route_rows (read_rows v.exits.queue r lent))
  read_is r is =
      ap (λ (x : Moment). read_by x.exits.queue x.reader (best_of m)) (sym view) ∙ ap (λ (o : Option ℕ). read_by v.exits.queue o (best_of m)) is
      ∙ ap (λ (rows : Rows Route). Some (route_rows (read_rows v.exits.queue r rows))) (sym lent_is)

  pub read_has : (r : ℕ) (p : AddressPrefix) (row : Option Route) → v.reader ≡ Some r → row ≡ read_rows v.exits.queue r lent p → HasRow (read_links m.exits.queue m.reader (best_of m)) ReadRib p (option_map route_value row)
  read_has r p row reads is = (route_rows (read_rows v.exits.queue r lent), read_is r reads, ap (option_map route_value) (sym is))

  pub read_next : (r : ℕ) (place result : Option AddressPrefix) (candidates : Candidates) → v.reader ≡ Some r → IsNextCandidate candidates place result → CoversRows candidates (read_rows v.exits.queue r lent)
      → IsNextPlace (read_links m.exits.queue m.reader (best_of m) ReadRib) place result
  read_next r place result candidates reads next covers = (
    candidates,
    next,
    λ rows is q lacks.
        ap (λ (x : Rows Value). x q) (same_Some rows (route_rows (read_rows v.exits.queue r lent)) (sym is ∙ read_is r reads)) ∙ ap (option_map route_value) (covers q lacks),
  )
