-- What rules never change in a route.
use Rattle.std.proofs.Common.{List, [], ◌∷◌, Option, IfSome, refl, sym, ◌∙◌, subst, inl, inr}
use Rattle.addr4.specs.Prefixes.{AddressPrefix}
use Rattle.bgp_attr.specs.Routes.{Route}
use Rattle.policy_rules.specs.declared.rule.Action.{Action}
use Rattle.policy_rules.specs.declared.rule.Action.TheVariants.{Pref, Med, NoMed, Prepend}
use Rattle.policy_rules.specs.declared.rule.Verdict.{Verdict}
use Rattle.policy_rules.specs.declared.rule.Verdict.TheVariants.{Accept, Reject, Next}
use Rattle.policy_rules.specs.Rules.{Rule}
use Rattle.policy_rules.specs.Judged.{Judged, KeepsSource, AllPassOn, PassesOn, EndsWith, Decides, done, acted}

same : (r : Route) → KeepsSource r r
same r = record { attrs = refl; igp = refl; from = refl }

both : (r between after : Route) → KeepsSource r between → KeepsSource between after → KeepsSource r after
both r between after h k = record { attrs = k.attrs ∙ h.attrs; igp = k.igp ∙ h.igp; from = k.from ∙ h.from }

done_keeps : (a : Action) (r : Route) → KeepsSource r (done a r)
done_keeps (Pref n) r = record { attrs = refl; igp = refl; from = refl }
done_keeps (Med n) r = record { attrs = refl; igp = refl; from = refl }
done_keeps NoMed r = record { attrs = refl; igp = refl; from = refl }
done_keeps (Prepend n) r = record { attrs = refl; igp = refl; from = refl }

pub acted_keeps : (actions : List Action) (r : Route) → KeepsSource r (acted actions r)
acted_keeps [] r = same r
acted_keeps (a ∷ actions) r = both r (done a r) (acted actions (done a r)) (done_keeps a r) (acted_keeps actions (done a r))

one_keeps : (p : AddressPrefix) (rule : Rule) (r after : Route) → PassesOn p rule r after → KeepsSource r after
one_keeps p rule r after h =
    elim h [
      | inl skips ↦ subst (λ x. KeepsSource r x) (sym skips.1) (same r)
      | inr acts ↦ subst (λ x. KeepsSource r x) (sym acts.2) (acted_keeps rule.actions r)
    ]

all_keep : (p : AddressPrefix) (front : List Rule) (r after : Route) → AllPassOn p front r after → KeepsSource r after
all_keep p [] r after h = subst (λ x. KeepsSource r x) (sym h) (same r)
all_keep p (rule ∷ front) r after h =
    both r h.0 after (one_keeps p rule r h.0 h.1.0) (all_keep p front h.0 after h.1.1)

verdict_keeps :
    (v : Verdict) (r after : Route) (result : Option Route) →
    Decides v after result → KeepsSource r after → IfSome result (KeepsSource r)
verdict_keeps Accept r after result h kept = subst (λ o. IfSome o (KeepsSource r)) (sym h) kept
verdict_keeps Reject r after result h kept = subst (λ o. IfSome o (KeepsSource r)) (sym h) tt
verdict_keeps Next r after result h kept = absurd h

ending_keeps :
    (p : AddressPrefix) (rules : List Rule) (r between : Route) (result : Option Route) →
    EndsWith p rules between result → KeepsSource r between → IfSome result (KeepsSource r)
ending_keeps p [] r between result h kept = subst (λ o. IfSome o (KeepsSource r)) (sym h) kept
ending_keeps p (rule ∷ more) r between result h kept =
    verdict_keeps rule.verdict r (acted rule.actions between) result h.1
    (both r between (acted rule.actions between) kept (acted_keeps rule.actions between))

pub judged_keeps :
    (p : AddressPrefix) (rules : List Rule) (r : Route) (result : Option Route) →
    Judged rules p r result → IfSome result (KeepsSource r)
judged_keeps p rules r result h = ending_keeps p h.behind r h.between result h.ends (all_keep p h.front r h.between h.pass)
