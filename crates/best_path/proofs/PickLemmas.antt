-- What is picked.
use Rattle.std.proofs.Common.{◌≡◌, ℕ, zero, suc, ◌<◌, List, [], ◌∷◌, length, slice_get, Option, Some, None, sym, ◌∙◌, ap, arith}
use Rattle.std.specs.Prelude.{filter}
use Rattle.bgp_attr.specs.Routes.{Route}
use Rattle.best_path.specs.Keys.{is_local}
use Rattle.best_path.specs.Places.{first_of, IsPlaceOfFirst}
use Rattle.best_path.specs.Steps.{left_by_all, local_or, IsPlaceOfBest}
use Rattle.best_path.proofs.StepLemmas.{all_steps, leave_one}

first_not_past : (list : List Route) (i : ℕ) → i < length list → slice_get list i ≡ None → ⊥
first_not_past [] i h e = omega (arith, h)
first_not_past (x ∷ xs) zero h e = grind (arith, e)
first_not_past (x ∷ xs) (suc i) h e = first_not_past xs i (omega (arith, h)) e

first_is_it : (locals others list : List Route) (i : ℕ) → i < length list → first_of locals ≡ slice_get list i →
    local_or locals others ≡ slice_get list i
first_is_it [] others list i h e = absurd (first_not_past list i h (sym e))
first_is_it (x ∷ xs) others list i h e = e

-- the place of the first local one is that of the best
pub picked_local : (list : List Route) (place : ℕ) → IsPlaceOfFirst list (filter is_local list) (Some place) → IsPlaceOfBest list (Some place)
picked_local list place h = (h.0, first_is_it (filter is_local list) (left_by_all list) list place h.0 h.1)

pub leaves_one : (list : List Route) → left_by_all list ≡ [] → list ≡ []
leaves_one list h = leave_one all_steps list h

-- where none is local, the place of the first that the steps leave is
pub picked_left : (list : List Route) (result : Option ℕ) → filter is_local list ≡ [] → IsPlaceOfFirst list (left_by_all list) result
    → IsPlaceOfBest list result
picked_left list None n h = leaves_one list h
picked_left list (Some i) n h = (h.0, ap (λ l. local_or l (left_by_all list)) n ∙ h.1)
