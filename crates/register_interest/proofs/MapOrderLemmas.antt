-- The rows in order, of the part of std's map that is gone through.
use Rattle.std.proofs.Common.{◌≡◌, true, false, List, [], ◌∷◌, ◌++◌, Option, Some, None, IsSome, is_some, refl, sym, ap, ◌∙◌, subst, slice_get, IfSome}
use Rattle.std.specs.Ordering.{is_lt}
use Rattle.std.specs.declared.ops.Bound.TheVariants.{Included, Excluded, Unbounded}
use Rattle.std.specs.BTreeMap as tree
use Rattle.std.specs.BTreeMap.{BTreeMap}
use Rattle.std.specs.BTreeMap.Range.{IsRangeOf, IsEntryInRange, IsLeBy}
use Rattle.std.specs.FinMap.{get}
use Rattle.addr4.specs.Prefixes.{AddressPrefix, prefix_cmp}
use Rattle.addr4.specs.Places.{IsNextRow}
use Rattle.addr4.proofs.PrefixOrder.{prefixes_total, comes_after}
use Rattle.link_change.proofs.MapLemmas.{map_read}
use Rattle.register_interest.specs.Search.{rows_in, IsLastTo}

module _ {V : Type 0} where
  row_of : (m : BTreeMap AddressPrefix V) (q : AddressPrefix) → get (rows_in m) q ≡ tree.get prefix_cmp m q
  row_of m q = map_read prefixes_total m.entries q

  none_if : (o : Option V) → (IsSome o → ⊥) → o ≡ None
  none_if None out = refl
  none_if (Some v) out = absurd (out refl)

  -- nothing up to the bound
  pub none_up_to : (m : BTreeMap AddressPrefix V) (b : AddressPrefix) (r : List (AddressPrefix × V)) → IsRangeOf prefix_cmp Unbounded (Included b) m r → r ≡ [] → IsLastTo (get (rows_in m)) b None
  none_up_to m b r range e = λ q le. row_of m q ∙ range.5 e q (tt, le)

  -- the last up to the bound
  pub last_up_to : (m : BTreeMap AddressPrefix V) (b k : AddressPrefix) (v : V) (r t : List (AddressPrefix × V)) → IsRangeOf prefix_cmp Unbounded (Included b) m r → r ≡ t ++ (k, v) ∷ [] → IsLastTo (get (rows_in m)) b (Some (k, v))
  last_up_to m b k v r t range e =
      let here = range.3 (k, v) t e in
      (here.0.1, row_of m k ∙ here.1, λ q le before. row_of m q ∙ none_if (tree.get prefix_cmp m q) (λ has. let clash : true ≡ false = sym (ap is_lt before) ∙ range.4 (k, v) t e q (tt, le) has in cc))

  -- nothing beyond the prefix
  pub none_beyond : (m : BTreeMap AddressPrefix V) (p : AddressPrefix) (r : List (AddressPrefix × V)) → IsRangeOf prefix_cmp (Excluded p) Unbounded m r → r ≡ [] → IsNextRow (get (rows_in m)) (Some p) None
  none_beyond m p r range e = λ q beyond. row_of m q ∙ range.5 e q (beyond, tt)

  -- the first beyond the prefix
  pub next_beyond : (m : BTreeMap AddressPrefix V) (p k : AddressPrefix) (v : V) (r t : List (AddressPrefix × V)) → IsRangeOf prefix_cmp (Excluded p) Unbounded m r → r ≡ (k, v) ∷ t → IsNextRow (get (rows_in m)) (Some p) (Some k)
  next_beyond m p k v r t range e =
      let here : IsEntryInRange prefix_cmp (Excluded p) Unbounded m (k, v) = subst (λ (l : List (AddressPrefix × V)). IfSome (slice_get l 0) (IsEntryInRange prefix_cmp (Excluded p) Unbounded m)) e range.1 in (
        here.0.0,
        ap is_some (row_of m k ∙ here.1),
        λ q beyond before. row_of m q ∙ none_if (tree.get prefix_cmp m q) (λ has.
            let le : IsLeBy prefix_cmp k q = subst (λ (l : List (AddressPrefix × V)). IfSome (slice_get l 0) (λ x. IsLeBy prefix_cmp x.0 q)) e (range.2 q (beyond, tt) has) in
            let clash : true ≡ false = sym (comes_after q k before) ∙ le in cc),
      )
