-- A route that moves between the links changes the merged rows once.
use Rattle.std.proofs.Common.{◌≡◌, ◌⊎◌, inl, inr, Bool, true, false, cond, not, nat_lt, Option, Some, None, refl, sym, ap, ◌∙◌}
use Rattle.addr4.specs.Prefixes.{AddressPrefix}
use Rattle.addr4.proofs.PrefixOrder.{by_prefix}
use Rattle.bgp_attr.specs.Routes.{Route}
use Rattle.rib_route.specs.Rows.{External}
use Rattle.rib_route.specs.declared.protocol.FibProto.TheVariants as protos
use Rattle.rib_route.specs.Distances.{distance, external_proto}
use Rattle.link_change.specs.Rows.{Rows, with_row}
use Rattle.link_change.specs.Changes.{IsSent}
use Rattle.link_change.specs.Changes.{Change}
use Rattle.link_change.proofs.RowLemmas.{same_function, with_row_here}
use Rattle.rib_merge.specs.Merging.{row_of_both}
use Rattle.rib_split.specs.declared.split.BgpLink.TheVariants.{Ebgp, Ibgp}
use Rattle.rib_split.specs.Splitting.{external_row, on_link, split_rows}
use Rattle.rib_split.specs.Laws.{MovedChangesOnce}

-- beside a row of an external peer no row of an internal one counts
beside : (e : Bool) (i : Bool) (a c : External) → a.internal ≡ e → c.internal ≡ i → (cond (not e) (Some a) None ≡ None → ⊥)
    → row_of_both (λ r. distance (external_proto r)) (cond (not e) (Some a) None) (cond i (Some c) None) ≡ cond (not e) (Some a) None
beside true i a c ea ei some = absurd (some refl)
beside false false a c ea ei some = refl
beside false true a c ea ei some =
    ap (λ b. cond (nat_lt (distance (cond b protos.Ibgp protos.Ebgp)) (distance (external_proto a))) (Some c) (Some a)) ei
    ∙ ap (λ b. cond (nat_lt 200 (distance (cond b protos.Ibgp protos.Ebgp))) (Some c) (Some a)) ea

ebgp_stands : (x y : Option External) → (on_link Ebgp x ≡ None → ⊥)
    → row_of_both (λ r. distance (external_proto r)) (on_link Ebgp x) (on_link Ibgp y) ≡ on_link Ebgp x
ebgp_stands None y some = absurd (some refl)
ebgp_stands (Some a) None some = alone (on_link Ebgp (Some a))
  where
    alone : (row : Option External) → row_of_both (λ r. distance (external_proto r)) row None ≡ row
    alone None = refl
    alone (Some r) = refl
ebgp_stands (Some a) (Some c) some = beside a.internal c.internal a c refl refl some

-- a change leaves the row at every other prefix
elsewhere : (old new : Rows External) (p : AddressPrefix) (change : Change External) → IsSent old new p (Some change) → (q : AddressPrefix) → (q ≡ p) ⊎ (new q ≡ old q)
elsewhere old new p change is q = by (by_prefix q change.prefix (λ b. (q ≡ change.prefix) ⊎ (cond b change.after (old q) ≡ old q)) (λ e. inl e) (λ _. inr refl))
  where
    by : (q ≡ change.prefix) ⊎ (with_row old change.prefix change.after q ≡ old q) → (q ≡ p) ⊎ (new q ≡ old q)
    by (inl here) = inl (here ∙ is.0)
    by (inr same) = inr (ap (λ (r : Rows External). r q) is.2 ∙ same)

-- the row before it, and the row after it
row_before_it : (old new : Rows External) (p : AddressPrefix) (change : Change External) → IsSent old new p (Some change) → old p ≡ change.before
row_before_it old new p change is = ap old (sym is.0) ∙ is.1.0

row_after_it : (old new : Rows External) (p : AddressPrefix) (change : Change External) → IsSent old new p (Some change) → new p ≡ change.after
row_after_it old new p change is =
    ap new (sym is.0) ∙ ap (λ (r : Rows External). r change.prefix) is.2 ∙ with_row_here old change.prefix change.after

module _ (upper now : Rows Route) (p : AddressPrefix) where
  -- the rows of `ebgp` at p of these routes hide those of `ibgp`, whichever those are
  hides : (rows : Rows Route) → (split_rows rows Ebgp p ≡ None → ⊥) → (q : AddressPrefix) → (q ≡ p) ⊎ (split_rows now Ibgp q ≡ split_rows upper Ibgp q)
      → row_of_both (λ r. distance (external_proto r)) (split_rows rows Ebgp q) (split_rows now Ibgp q)
      ≡ row_of_both (λ r. distance (external_proto r)) (split_rows rows Ebgp q) (split_rows upper Ibgp q)
  hides rows some q (inr same) = ap (row_of_both (λ r. distance (external_proto r)) (split_rows rows Ebgp q)) same
  hides rows some q (inl here) =
      let there : split_rows rows Ebgp q ≡ None → ⊥ = λ none. some (ap (split_rows rows Ebgp) (sym here) ∙ none) in
      ebgp_stands (external_row (rows q)) (external_row (now q)) there ∙ sym (ebgp_stands (external_row (rows q)) (external_row (upper q)) there)

pub moved_changes_once : MovedChangesOnce
moved_changes_once upper now Ebgp p add delete m =
    let there : split_rows now Ebgp p ≡ None → ⊥ =
    λ none. m.first.0.1.1 (sym (row_after_it _ _ p add m.first.0) ∙ none ∙ sym m.adds) in
    inr (same_function _ _ (λ q. hides upper now p now there q (elsewhere _ _ p delete m.second.0 q)))
moved_changes_once upper now Ibgp p add delete m =
    let there : split_rows upper Ebgp p ≡ None → ⊥ =
    λ none. m.second.0.1.1 (m.deletes ∙ sym none ∙ row_before_it _ _ p delete m.second.0) in
    inl (same_function _ _ (λ q. hides upper now p upper there q (elsewhere _ _ p add m.first.0 q)))
