-- The laws of the best rows.
use Rattle.std.proofs.Common.{◌≡◌, ℕ, zero, suc, ◌+◌, ◌<◌, ◌⊎◌, List, [], ◌∷◌, ◌++◌, Option, Some, None, refl, sym, ◌∙◌, ap, subst, arith, inl, inr}
use Rattle.std.specs.List.{cons_option}
use Rattle.bgp_attr.specs.Routes.{Route}
use Rattle.best_path.specs.Steps.{pick}
use Rattle.best_path.proofs.StepLemmas.{Has}
use Rattle.best_path.proofs.LawLemmas.{contains_has, pick_is_one_of_them, none_only_of_nothing}
use Rattle.decision.specs.Lineups.{at_prefix, routes_of}
use Rattle.decision.specs.Laws.{BestIsPicked, BestIsABranchs, NoBestOnlyWithoutRoutes, BestIsOfItsPrefix}
use Rattle.decision.proofs.LineupLemmas.{by_number, routes_more, same_routes}
use Rattle.decision.proofs.BestLemmas.{best_is}

pub best_is_picked : BestIsPicked
best_is_picked rows p = best_is rows p

-- ---- whose route it is
of_one : (routes : List Route) (row : Option Route) (route : Route) → Has (routes ++ cons_option row []) route → Has routes route ⊎ (row ≡ Some route)
of_one [] None route h = absurd h
of_one [] (Some r) route (inl is) = inr (ap Some is)
of_one [] (Some r) route (inr h) = absurd h
of_one (r ∷ rs) row route (inl is) = inl (inl is)
of_one (r ∷ rs) row route (inr h) = elim (of_one rs row route h) [ inl k ↦ inl (inr k) | inr is ↦ inr is ]

branch_of : (n : ℕ) (here : ℕ → Option Route) (route : Route) → Has (routes_of n here) route → (b : ℕ) × (b < n) × (here b ≡ Some route)
branch_of zero here route h = absurd h
branch_of (suc n) here route h =
    let e : suc n ≡ n + 1 = omega arith in
    let more : routes_of (suc n) here ≡ routes_of n here ++ cons_option (here n) [] = ap (λ m. routes_of m here) e ∙ routes_more n here in
    elim (of_one (routes_of n here) (here n) route (subst (λ l. Has l route) more h)) [
      | inl k ↦ let r = branch_of n here route k in (r.0, omega (arith, r.1), r.2)
      | inr is ↦ (n, omega arith, is)
    ]

pub best_is_a_branchs : BestIsABranchs
best_is_a_branchs rows p route is =
    let at = pick_is_one_of_them (routes_of 65 (at_prefix rows p)) route (sym (best_is rows p) ∙ is) in
    branch_of 65 (at_prefix rows p) route (contains_has (routes_of 65 (at_prefix rows p)) route at.0 at.1 at.2)

-- ---- where there is none
ends_empty : (routes : List Route) (row : Option Route) → routes ++ cons_option row [] ≡ [] → (routes ≡ []) × (row ≡ None)
ends_empty [] None e = (refl, refl)
ends_empty [] (Some r) e = absurd (let f : r ∷ [] ≡ [] = e in cc)
ends_empty (r ∷ rs) row e = absurd (let f : r ∷ (rs ++ cons_option row []) ≡ [] = e in cc)

pub no_row : (n : ℕ) (here : ℕ → Option Route) → routes_of n here ≡ [] → (b : ℕ) → b < n → here b ≡ None
no_row zero here none b below = absurd (omega (arith, below))
no_row (suc n) here none b below =
    let e : n + 1 ≡ suc n = omega arith in
    let r = ends_empty (routes_of n here) (here n) (sym (routes_more n here) ∙ ap (λ m. routes_of m here) e ∙ none) in
    by_number b n (λ t. here b ≡ None) (λ same. ap here same ∙ r.1) (λ differ. no_row n here r.0 b (omega (arith, below, differ)))

pub no_best_only_without_routes : NoBestOnlyWithoutRoutes
no_best_only_without_routes rows p none b below =
    no_row 65 (at_prefix rows p) (none_only_of_nothing (routes_of 65 (at_prefix rows p)) (sym (best_is rows p) ∙ none)) b below

-- ---- what it is made of
pub best_is_of_its_prefix : BestIsOfItsPrefix
best_is_of_its_prefix rows other p same =
    best_is rows p ∙ ap pick (same_routes 65 (at_prefix rows p) (at_prefix other p) same) ∙ sym (best_is other p)
