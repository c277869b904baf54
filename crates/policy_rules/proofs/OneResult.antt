-- Rules judge a route in one way alone.
use Rattle.std.proofs.Common.{◌≡◌, List, [], ◌∷◌, ◌++◌, Option, sym, ◌∙◌, subst, inl, inr}
use Rattle.addr4.specs.Prefixes.{AddressPrefix}
use Rattle.bgp_attr.specs.Routes.{Route}
use Rattle.policy_rules.specs.declared.rule.Verdict.{Verdict}
use Rattle.policy_rules.specs.declared.rule.Verdict.TheVariants.{Accept, Reject, Next}
use Rattle.policy_rules.specs.Rules.{Rule}
use Rattle.policy_rules.specs.Judged.{AllPassOn, PassesOn, EndsWith, Decides, acted}
use Rattle.policy_rules.specs.Laws.{OneResult}

decided_once : (v : Verdict) (r : Route) (a b : Option Route) → Decides v r a → Decides v r b → a ≡ b
decided_once Accept r a b h k = h ∙ sym k
decided_once Reject r a b h k = h ∙ sym k
decided_once Next r a b h k = absurd h

ended_once : (p : AddressPrefix) (rules : List Rule) (r : Route) (a b : Option Route) → EndsWith p rules r a → EndsWith p rules r b → a ≡ b
ended_once p [] r a b h k = h ∙ sym k
ended_once p (rule ∷ more) r a b h k = decided_once rule.verdict (acted rule.actions r) a b h.1 k.1

-- a rule that passes a route on doesn't decide
not_both :
    (p : AddressPrefix) (rule : Rule) (more : List Rule) (r after : Route) (result : Option Route) →
    PassesOn p rule r after → EndsWith p (rule ∷ more) r result → ⊥
not_both p rule more r after result h ends =
    elim h [
      | inl skips ↦ skips.0 ends.0
      | inr acts ↦ subst (λ v. Decides v (acted rule.actions r) result) acts.1 ends.1
    ]

passed_once : (p : AddressPrefix) (rule : Rule) (r m n : Route) → PassesOn p rule r m → PassesOn p rule r n → m ≡ n
passed_once p rule r m n h k =
    elim h [
      | inl s ↦ elim k [ inl t ↦ s.1 ∙ sym t.1 | inr t ↦ absurd (s.0 t.0) ]
      | inr s ↦ elim k [ inl t ↦ absurd (t.0 s.0) | inr t ↦ s.2 ∙ sym t.2 ]
    ]

fronts :
    (p : AddressPrefix) (front other_front behind other_behind : List Rule) (r m n : Route) (a b : Option Route) →
    front ++ behind ≡ other_front ++ other_behind →
    AllPassOn p front r m → EndsWith p behind m a →
    AllPassOn p other_front r n → EndsWith p other_behind n b → a ≡ b
fronts p [] [] behind other_behind r m n a b e pass ends other_pass other_ends =
    ended_once p other_behind r a b
    (subst (λ x. EndsWith p other_behind x a) pass (subst (λ rules. EndsWith p rules m a) e ends))
    (subst (λ x. EndsWith p other_behind x b) other_pass other_ends)
fronts p [] (g ∷ other_front) behind other_behind r m n a b e pass ends other_pass other_ends =
    absurd (not_both p g (other_front ++ other_behind) r other_pass.0 a other_pass.1.0
    (subst (λ x. EndsWith p (g ∷ other_front ++ other_behind) x a) pass (subst (λ rules. EndsWith p rules m a) e ends)))
fronts p (f ∷ front) [] behind other_behind r m n a b e pass ends other_pass other_ends =
    absurd (not_both p f (front ++ behind) r pass.0 b pass.1.0
    (subst (λ x. EndsWith p (f ∷ front ++ behind) x b) other_pass (subst (λ rules. EndsWith p rules n b) (sym e) other_ends)))
fronts p (f ∷ front) (g ∷ other_front) behind other_behind r m n a b e pass ends other_pass other_ends =
    let heads : f ≡ g = cc in
    let tails : front ++ behind ≡ other_front ++ other_behind = cc in
    let met : pass.0 ≡ other_pass.0 = passed_once p g r pass.0 other_pass.0 (subst (λ x. PassesOn p x r pass.0) heads pass.1.0) other_pass.1.0 in
    fronts p front other_front behind other_behind other_pass.0 m n a b tails
    (subst (λ x. AllPassOn p front x m) met pass.1.1) ends other_pass.1.1 other_ends

pub one_result : OneResult
one_result rules p r a b h k =
    fronts p h.front k.front h.behind k.behind r h.between k.between a b (sym h.all ∙ k.all) h.pass h.ends k.pass k.ends
