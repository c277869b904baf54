-- Of two forwarding rows that of lesser distance.
use Rattle.std.proofs.Common.{◌≡◌, ◌⊎◌, inl, inr, ◌<◌, ◌≤◌, Bool, true, false, cond, nat_lt, Some, None, ap, refl, arith}
use Rattle.std.proofs.lemmas.Bool.Decides.{nat_tests}
use Rattle.rib_route.specs.Rows.{FibRow}
use Rattle.rib_route.specs.Distances.{distance}
use Rattle.live_state.specs.Laws.{TheLesserDistanceForwards, EachRowForwards}

same_distance : (a b : FibRow) → Some a ≡ Some b → distance a.proto ≡ distance b.proto
same_distance a b e = let same : a ≡ b = cc in ap (λ r. distance r.proto) same

by_test : (one other row : FibRow) (t : Bool) → nat_lt (distance other.proto) (distance one.proto) ≡ t → cond t (Some other) (Some one) ≡ Some row
    → ((Some one ≡ Some row) ⊎ (Some other ≡ Some row)) × ((x : FibRow) → (Some one ≡ Some x) ⊎ (Some other ≡ Some x) → distance row.proto ≤ distance x.proto)
by_test one other row true less e = (inr e, λ x h. within x h)
  where
    within : (x : FibRow) → (Some one ≡ Some x) ⊎ (Some other ≡ Some x) → distance row.proto ≤ distance x.proto
    within x (inl f) =
        let is = same_distance other row e in
        let same = same_distance one x f in
        let lt : distance other.proto < distance one.proto = grind (arith, nat_tests) in
        omega (arith, is, same, lt)
    within x (inr f) = let is = same_distance other row e in let same = same_distance other x f in omega (arith, is, same)
by_test one other row false less e = (inl e, λ x h. within x h)
  where
    within : (x : FibRow) → (Some one ≡ Some x) ⊎ (Some other ≡ Some x) → distance row.proto ≤ distance x.proto
    within x (inl f) = let is = same_distance one row e in let same = same_distance one x f in omega (arith, is, same)
    within x (inr f) =
        let is = same_distance one row e in
        let same = same_distance other x f in
        let le : distance one.proto ≤ distance other.proto = grind (arith, nat_tests) in
        omega (arith, is, same, le)

pub lesser_forwards : TheLesserDistanceForwards
lesser_forwards None None row e = absurd (cc)
lesser_forwards None (Some other) row e = (inr e, λ x h. within x h)
  where
    within : (x : FibRow) → (None ≡ Some x) ⊎ (Some other ≡ Some x) → distance row.proto ≤ distance x.proto
    within x (inl f) = absurd (cc)
    within x (inr f) = let is = same_distance other row e in let same = same_distance other x f in omega (arith, is, same)
lesser_forwards (Some one) None row e = (inl e, λ x h. within x h)
  where
    within : (x : FibRow) → (Some one ≡ Some x) ⊎ (None ≡ Some x) → distance row.proto ≤ distance x.proto
    within x (inl f) = let is = same_distance one row e in let same = same_distance one x f in omega (arith, is, same)
    within x (inr f) = absurd (cc)
lesser_forwards (Some one) (Some other) row e = by_test one other row (nat_lt (distance other.proto) (distance one.proto)) refl e

none_by : (one other : FibRow) (t : Bool) → cond t (Some other) (Some one) ≡ None → (Some one ≡ None) × (Some other ≡ None)
none_by one other true e = absurd (cc)
none_by one other false e = absurd (cc)

pub each_forwards : EachRowForwards
each_forwards None None e = (refl, refl)
each_forwards None (Some other) e = (refl, e)
each_forwards (Some one) None e = (e, refl)
each_forwards (Some one) (Some other) e = none_by one other (nat_lt (distance other.proto) (distance one.proto)) e
