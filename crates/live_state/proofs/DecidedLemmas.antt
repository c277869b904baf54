-- What is decided of interior routes is a live one of least distance.
use Rattle.std.proofs.Common.{◌≡◌, ℕ, zero, suc, ◌<◌, ◌⊎◌, length, slice_index_or, Bool, true, false, cond, not, nat_lt, List, [], ◌∷◌, Option, Some, None, refl, sym, ap, ◌∙◌, inl, inr, arith}
use Rattle.std.specs.Prelude.{Contains}
use Rattle.std.proofs.lemmas.Bool.{ltb-false}
use Rattle.std.specs.List.{find, list_any, cons_option}
use Rattle.std.specs.FinMap as tables
use Rattle.addr4.specs.Prefixes.{AddressPrefix}
use Rattle.rib_route.specs.declared.Proto.{Proto}
use Rattle.rib_route.specs.Rows.{Interior}
use Rattle.live_state.specs.Lives.{Interiors}
use Rattle.live_state.specs.Decided.{distance_of, least_of, routes_at}
use Rattle.live_state.specs.Laws.{TheLeastDistanceIsDecided, EachLiveRouteCounts}
use Rattle.live_state.proofs.LeastLemmas.{first_false, second_false, found}

-- ---- routes of a list
abbrev Has : List Interior → Interior → Type 0
Has [] u = ⊥
Has (x ∷ xs) u = (x ≡ u) ⊎ Has xs u

has_first : (a : Option Interior) (xs : List Interior) (u : Interior) → a ≡ Some u → Has (cons_option a xs) u
has_first None xs u e = absurd (cc)
has_first (Some x) xs u e = inl (cc)

has_later : (a : Option Interior) (xs : List Interior) (u : Interior) → Has xs u → Has (cons_option a xs) u
has_later None xs u h = h
has_later (Some x) xs u h = inr h

one_of : (a : Option Interior) (xs : List Interior) (u : Interior) → Has (cons_option a xs) u → (a ≡ Some u) ⊎ Has xs u
one_of None xs u h = inr h
one_of (Some x) xs u (inl e) = inl (ap Some e)
one_of (Some x) xs u (inr h) = inr h

-- ---- what is found
found_has : (p : Interior → Bool) (xs : List Interior) (u : Interior) → find p xs ≡ Some u → Has xs u × (p u ≡ true)
found_has p [] u e = absurd (let f : None ≡ Some u = e in cc)
found_has p (x ∷ xs) u e = by_test (p x) refl e (λ f. found_has p xs u f)
  where
    by_test : (t : Bool) → p x ≡ t → cond t (Some x) (find p xs) ≡ Some u → (find p xs ≡ Some u → Has xs u × (p u ≡ true)) → Has (x ∷ xs) u × (p u ≡ true)
    by_test true at f later = let same : x ≡ u = cc in (inl same, sym (ap p same) ∙ at)
    by_test false at f later = let h = later f in (inr h.0, h.1)

fails_all : (p : Interior → Bool) (xs : List Interior) (u : Interior) → list_any p xs ≡ false → Has xs u → p u ≡ false
fails_all p [] u none h = absurd h
fails_all p (x ∷ xs) u none (inl e) = ap p (sym e) ∙ first_false (p x) (list_any p xs) none
fails_all p (x ∷ xs) u none (inr h) = fails_all p xs u (second_false (p x) (list_any p xs) none) h

none_beats : (t : Bool) → not t ≡ true → t ≡ false
none_beats true e = sym e
none_beats false e = refl

never : (xs : List Interior) (u : Interior) → least_of xs ≡ None → Has xs u → ⊥
never [] u none h = h
never (x ∷ xs) u none h = let f = found x xs in let clash : None ≡ Some f.one = sym none ∙ f.least_is in absurd (cc)

-- ---- protocols
module _ (interior : Proto → Interiors) (p : AddressPrefix) where
  some_protocol : (protocols : List Proto) (u : Interior) → Has (routes_at interior protocols p) u → (proto : Proto) × Contains protocols proto × (tables.get (interior proto) p ≡ Some u)
  some_protocol [] u h = absurd h
  some_protocol (q ∷ qs) u h =
      elim (one_of (tables.get (interior q) p) (routes_at interior qs p) u h) as (λ _. (proto : Proto) × Contains (q ∷ qs) proto × (tables.get (interior proto) p ≡ Some u)) [
        | inl e ↦ (q, (0, omega arith, refl), e)
        | inr later ↦ let r = some_protocol qs u later in let below : r.1.0 < length qs = r.1.1 in (r.0, (suc r.1.0, omega (arith, below), r.1.2), r.2)
      ]

  each_protocol : (protocols : List Proto) (proto : Proto) (k : ℕ) → k < length protocols → slice_index_or protocols k proto ≡ proto → (u : Interior) → tables.get (interior proto) p ≡ Some u → Has (routes_at interior protocols p) u
  each_protocol [] proto k below at u e = absurd (omega (arith, below))
  each_protocol (q ∷ qs) proto zero below at u e = has_first (tables.get (interior q) p) (routes_at interior qs p) u (ap (λ (x : Proto). tables.get (interior x) p) at ∙ e)
  each_protocol (q ∷ qs) proto (suc k) below at u e = has_later (tables.get (interior q) p) (routes_at interior qs p) u (each_protocol qs proto k (omega (arith, below)) at u e)

pub the_least : TheLeastDistanceIsDecided
the_least interior protocols p row is =
    let routes : List Interior = routes_at interior protocols p in
    let beaten : Interior → Bool = λ r. list_any (λ other. nat_lt (distance_of other) (distance_of r)) routes in
    let h = found_has (λ r. not (beaten r)) routes row is in (
      some_protocol interior p protocols row h.0,
      λ proto other of e.
          ltb-false (distance_of other) (distance_of row)
          (fails_all (λ o. nat_lt (distance_of o) (distance_of row)) routes other (none_beats (beaten row) h.1) (each_protocol interior p protocols proto of.0 of.1 of.2 other e)),
    )

pub each_counts : EachLiveRouteCounts
each_counts interior protocols p none proto of = by_row (tables.get (interior proto) p) refl
  where
    by_row : (o : Option Interior) → tables.get (interior proto) p ≡ o → tables.get (interior proto) p ≡ None
    by_row None e = e
    by_row (Some u) e = absurd (never (routes_at interior protocols p) u none (each_protocol interior p protocols proto of.0 of.1 of.2 u e))
