-- The routes that the forwarding side has are those over which the RIB's exit stands.
use Rattle.router_moments.proofs.Common.{sym, subst, ◌∙◌, ap, ◌≡◌, ℕ, AddressPrefix, Route, Rows, Exited, Moment, best_of, StandsOver, HaveReaders}
use Rattle.std.proofs.Common.{Option, Some, IsSome}
use Rattle.std.specs.FinMap as tables
use Rattle.rib_route.specs.Rows.{External}
use Rattle.rib_split.specs.Splitting.{external_row}
use Rattle.rib_exit.specs.Exits.{ext_rows}
use Rattle.rib_exit.proofs.LawLemmas.{ext_is_of_best}
use Rattle.router_moments.specs.Moments.{read_of, read_rows_by}
use Rattle.router_moments.proofs.BestLemmas.{lent_best}
use Rattle.router_network.specs.declared.above.Above.{Above}
use Rattle.router_network.proofs.AboveRows.{IsAbove, with_above, above_of, best_above}

best_is : {F : Type 0} (a : Above F) (m : Moment) → IsAbove a m → best_above a ≡ best_of m
best_is a m is = lent_best m a.declared a.tree a.redist a.chains a.hops is.declared is.tree is.redist is.chains is.hops

-- the best rows of what was lent are those of the moment
pub best_lent : {F : Type 0} (lent a : Above F) (v m : Moment) → lent ≡ a → with_above a v ≡ m → best_above lent ≡ best_of m
best_lent lent a v m same view = ap (λ (x : Above _). best_above x) same ∙ best_is a m (above_of a v m view)

module _ (e : Exited) (reader : Option ℕ) (best : Rows Route) (m : Moment) (is_best : best ≡ best_of m) (exits : e ≡ m.exits) (reads : reader ≡ m.reader) where
  rows_are : read_rows_by e.queue reader best ≡ read_of m
  rows_are =
      ap (λ (x : Exited). read_rows_by x.queue reader best) exits ∙ ap (λ (o : Option ℕ). read_rows_by m.exits.queue o best) reads
      ∙ ap (read_rows_by m.exits.queue m.reader) is_best

  pub parts_stand : (v : Moment) → v ≡ m → HaveReaders m → StandsOver (read_rows_by e.queue reader best) v.rib
  parts_stand v view readers = subst (λ (rows : Rows Route). StandsOver rows v.rib) (sym rows_are) (subst (λ (n : Moment). StandsOver (read_of m) n.rib) (sym view) readers.external)

  -- what it tells is the row of `ext`
  pub read_row : HaveReaders m → (p : AddressPrefix) (row : Option External) → row ≡ external_row (read_rows_by e.queue reader best p) → row ≡ ext_rows m.rib p
  read_row readers p row is = is ∙ ap (λ (rows : Rows Route). external_row (rows p)) rows_are ∙ ap (λ (rows : Rows External). rows p) (sym (ext_is_of_best m.rib (read_of m) readers.external))

-- its reader is one of the queue's
pub read_live : (m : Moment) (e : Exited) (reader : Option ℕ) → e ≡ m.exits → reader ≡ m.reader → HaveReaders m → (r : ℕ) → reader ≡ Some r → IsSome (tables.get e.queue r)
read_live m e reader exits own readers r is = subst (λ (x : Exited). IsSome (tables.get x.queue r)) (sym exits) (readers.reader r (sym own ∙ is))
