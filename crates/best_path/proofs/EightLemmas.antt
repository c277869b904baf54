-- Where no route is reflected, the eight steps of RFC 4271 leave what the nine leave.
use Rattle.std.proofs.Common.{◌≡◌, ℕ, Bool, not, nat_lt, List, [], ◌∷◌, ◌++◌, refl, ◌∙◌, ap, subst, inl, inr}
use Rattle.std.specs.Prelude.{filter}
use Rattle.std.specs.List.{list_any}
use Rattle.bgp_attr.specs.Reflections.{not_reflected}
use Rattle.bgp_attr.specs.Routes.{Route}
use Rattle.best_path.specs.declared.step.Step.{Step}
use Rattle.best_path.specs.declared.step.Step.TheVariants.{Preference, PathLength, Origin, Med, External, InteriorMetric, Identifier}
use Rattle.best_path.specs.Keys.{is_local, peer_identifier, identifier, cluster_count}
use Rattle.best_path.specs.Steps.{keep_least, lowest_identifier, lowest_peer_identifier, fewest_clusters, lowest_address, local_or}
use Rattle.best_path.specs.Laws.{NoneIsReflected, EightStepsLeaveTheSame, EightStepsPickTheSame}
use Rattle.best_path.proofs.StepLemmas.{Has, left_by}
use Rattle.best_path.proofs.LawLemmas.{has_contains, left_of}
use Rattle.best_path.proofs.LeaderLemmas.{none_of, same_test, all_pass}

same_any : {X : Type 0} → (p q : X → Bool) (xs : List X) → ((u : X) → Has xs u → p u ≡ q u) → list_any p xs ≡ list_any q xs
same_any p q [] h = refl
same_any p q (x ∷ xs) h = rw (h x (inl refl)) (rw (same_any p q xs (λ u k. h u (inr k))) refl)

-- the least by one key are the least by another one that is the same of all
least_by_same : (key other : Route → ℕ) (list : List Route) → ((r : Route) → Has list r → key r ≡ other r) →
    keep_least key list ≡ keep_least other list
least_by_same key other list e =
    same_test (λ u. not (list_any (λ one. nat_lt (key one) (key u)) list)) (λ u. not (list_any (λ one. nat_lt (other one) (other u)) list)) list
    (λ u h. ap not
    (same_any (λ one. nat_lt (key one) (key u)) (λ one. nat_lt (other one) (other u)) list (λ one k. rw (e one k) (rw (e u h) refl))))

-- where all have one key, all are the least
least_by_none : (list : List Route) → keep_least (λ r. 0) list ≡ list
least_by_none list =
    all_pass (λ u. not (list_any (λ one. nat_lt 0 0) list)) list (λ u. ap not (none_of (λ one. nat_lt 0 0) list (λ one k. refl)))

unreflected : (list : List Route) → NoneIsReflected list → (r : Route) → Has list r → r.attrs.reflection ≡ not_reflected
unreflected list h r k =
    let at = has_contains list r k in subst (λ u. u.attrs.reflection ≡ not_reflected) at.2 (h at.0 r at.1)

same_identifier : (r : Route) → r.attrs.reflection ≡ not_reflected → identifier r ≡ peer_identifier r
same_identifier r h = rw h refl

no_clusters : (r : Route) → r.attrs.reflection ≡ not_reflected → cluster_count r ≡ 0
no_clusters r h = rw h refl

-- the steps before the seventh
abbrev first_six : List Step
first_six = Preference ∷ PathLength ∷ Origin ∷ Med ∷ External ∷ InteriorMetric ∷ []

-- the eighth step keeps all, and the seventh has the same key
pub eight_leave_the_same : EightStepsLeaveTheSame
eight_leave_the_same list h =
    let nearest = left_by first_six list in
    let identified : lowest_identifier nearest ≡ lowest_peer_identifier nearest =
    least_by_same identifier peer_identifier nearest (λ r k. same_identifier r (unreflected list h r (left_of first_six list r k))) in
    let clustered : fewest_clusters (lowest_identifier nearest) ≡ lowest_identifier nearest =
    least_by_same cluster_count (λ r. 0) (lowest_identifier nearest)
    (λ r k. no_clusters r (unreflected list h r (left_of (first_six ++ Identifier ∷ []) list r k)))
    ∙ least_by_none (lowest_identifier nearest) in
    ap lowest_address (clustered ∙ identified)

pub eight_pick_the_same : EightStepsPickTheSame
eight_pick_the_same list h = ap (local_or (filter is_local list)) (eight_leave_the_same list h)
