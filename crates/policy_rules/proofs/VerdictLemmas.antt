-- The answer of rules as a function is the one that the first deciding rule gives.
use Rattle.std.proofs.Common.{◌≡◌, ◌≤◌, ◌==◌, ℕ, nat_eq, nat_le, Bool, true, false, cond, List, [], ◌∷◌, Option, Some, None, Any, Contains, refl, sym, ap, subst, inl, inr, arith}
use Rattle.std.specs.List.{list_any}
use Rattle.std.specs.Bool.{Decides}
use Rattle.std.proofs.lemmas.Bool.{eqb-true, eq-eqb, leb-true, le-leb}
use Rattle.std.proofs.lemmas.Bool.Decides.{Decides-and, Decides-like, Decides-eqb, not_from_Decides}
use Rattle.std.proofs.lemmas.List.Folds.{Any-from_list_any, list_any-from_Any, list_any_at}
use Rattle.std.proofs.lemmas.Map.Views.{Contains-from_any}
use Rattle.addr4.specs.Blocks.{width}
use Rattle.addr4.specs.Prefixes.{AddressPrefix, Covers, behind}
use Rattle.bgp_attr.specs.Paths.{HasAs}
use Rattle.bgp_attr.specs.declared.path.Segment.{Segment}
use Rattle.bgp_attr.specs.declared.attrs.Origin as origin
use Rattle.bgp_attr.specs.declared.attrs.Origin.TheVariants.{Igp, Egp, Incomplete}
use Rattle.bgp_attr.specs.Routes.{Route}
use Rattle.policy_rules.specs.Rules.{Condition}
use Rattle.policy_rules.specs.declared.rule.Condition.TheVariants.{Any as All, Within, Path, Origin}
use Rattle.policy_rules.specs.declared.rule.Verdict.{Verdict}
use Rattle.policy_rules.specs.declared.rule.Verdict.TheVariants.{Accept, Reject, Next}
use Rattle.policy_rules.specs.Rules.{Rule}
use Rattle.policy_rules.specs.Judged.{Judged, Holds, PassesOn, Decides as DecidesBy, acted}
use Rattle.policy_rules.specs.Verdicts.{has_as, origin_number, covers, holds, by_verdict, judged_by}
use Rattle.policy_rules.specs.Laws.{AnswerIsJudged}
use Rattle.policy_rules.proofs.OneResult.{one_result}

-- ---- conditions
any_decides :
    {X : Type 0} (p : X → Bool) (P : X → Type 0) → ((x : X) → Decides (p x) (P x)) → (xs : List X) → Decides (list_any p xs) (Any P xs)
any_decides p P each xs = (
  λ e. let h = Any-from_list_any p xs e in (h.0, h.1, h.2, h.3, (each h.1).0 h.4),
  λ h. list_any-from_Any p xs (h.0, h.1, h.2, h.3, (each h.1).1 h.4),
)

number_decides : (xs : List ℕ) (n : ℕ) → Decides (list_any (nat_eq n) xs) (Contains xs n)
number_decides xs n = (
  λ e. Contains-from_any (λ x y. eqb-true x y) n xs e,
  λ h. list_any_at (nat_eq n) xs h.0 n h.1 (eq-eqb n _ (sym h.2)),
)

pub has_decides : (path : List Segment) (asn : ℕ) → Decides (has_as path asn) (HasAs path asn)
has_decides path asn = any_decides _ _ (λ s. number_decides s.numbers asn) path

at_most_decides : (a b : ℕ) → Decides (nat_le a b) (a ≤ b)
at_most_decides a b = (leb-true a b, le-leb a b)

covers_decides : (p q : AddressPrefix) → Decides (covers p q) (Covers width p q)
covers_decides p q =
    Decides-like _ (λ h. record { from = h.0; to = h.1 }) (λ h. (h.from, h.to))
    (Decides-and _ _ (at_most_decides p.address q.address) (at_most_decides (behind width q) (behind width p)))

same_origin : (a b : origin.Origin) → origin_number a ≡ origin_number b → a ≡ b
same_origin Igp Igp e = refl
same_origin Igp Egp e = absurd (omega (arith, e))
same_origin Igp Incomplete e = absurd (omega (arith, e))
same_origin Egp Igp e = absurd (omega (arith, e))
same_origin Egp Egp e = refl
same_origin Egp Incomplete e = absurd (omega (arith, e))
same_origin Incomplete Igp e = absurd (omega (arith, e))
same_origin Incomplete Egp e = absurd (omega (arith, e))
same_origin Incomplete Incomplete e = refl

origin_decides : (a b : origin.Origin) → Decides (origin_number a == origin_number b) (a ≡ b)
origin_decides a b = Decides-like _ (same_origin a b) (ap origin_number) (Decides-eqb (origin_number a) (origin_number b))

pub holds_decides : (c : Condition) (p : AddressPrefix) (r : Route) → Decides (holds c p r) (Holds c p r)
holds_decides All p r = (λ _. tt, λ _. refl)
holds_decides (Within q least most) p r =
    Decides-like _ (λ h. (h.0, h.1.0, h.1.1)) (λ h. (h.0, (h.1, h.2)))
    (Decides-and _ _ (covers_decides q p) (Decides-and _ _ (at_most_decides least p.length) (at_most_decides p.length most)))
holds_decides (Path asn) p r = has_decides r.attrs.path asn
holds_decides (Origin o) p r = origin_decides r.attrs.origin o

-- ---- a rule in front of others
passed :
    (p : AddressPrefix) (rule : Rule) (rules : List Rule) (r after : Route) (result : Option Route) →
    PassesOn p rule r after → Judged rules p after result → Judged (rule ∷ rules) p r result
passed p rule rules r after result one h = record {
  front = rule ∷ h.front;
  behind = h.behind;
  between = h.between;
  all = ap (λ rs. rule ∷ rs) h.all;
  pass = (after, (one, h.pass));
  ends = h.ends;
}

ended :
    (p : AddressPrefix) (rule : Rule) (rules : List Rule) (r : Route) (v : Verdict) (result : Option Route) →
    rule.verdict ≡ v → Holds rule.condition p r → DecidesBy v (acted rule.actions r) result → Judged (rule ∷ rules) p r result
ended p rule rules r v result is h decided = record {
  front = [];
  behind = rule ∷ rules;
  between = r;
  all = refl;
  pass = refl;
  ends = (h, subst (λ x. DecidesBy x (acted rule.actions r) result) (sym is) decided);
}

by_its_verdict :
    (p : AddressPrefix) (rule : Rule) (rules : List Rule) (r : Route) (v : Verdict) (later : Option Route) →
    rule.verdict ≡ v → Holds rule.condition p r → Judged rules p (acted rule.actions r) later →
    Judged (rule ∷ rules) p r (by_verdict v (acted rule.actions r) later)
by_its_verdict p rule rules r Accept later is h more = ended p rule rules r Accept (Some (acted rule.actions r)) is h refl
by_its_verdict p rule rules r Reject later is h more = ended p rule rules r Reject None is h refl
by_its_verdict p rule rules r Next later is h more =
    passed p rule rules r (acted rule.actions r) later (inr (h, is, refl)) more

by_condition :
    (p : AddressPrefix) (rule : Rule) (rules : List Rule) (r : Route) (b : Bool) (acts skips : Option Route) →
    Decides b (Holds rule.condition p r) → (Holds rule.condition p r → Judged (rule ∷ rules) p r acts) →
    Judged rules p r skips → Judged (rule ∷ rules) p r (cond b acts skips)
by_condition p rule rules r true acts skips d h more = h (d.0 refl)
by_condition p rule rules r false acts skips d h more =
    passed p rule rules r r skips (inl (not_from_Decides false d refl, refl)) more

pub answer_is_judged : AnswerIsJudged
answer_is_judged [] p r = record { front = []; behind = []; between = r; all = refl; pass = refl; ends = refl }
answer_is_judged (rule ∷ rules) p r =
    let after = acted rule.actions r in
    by_condition p rule rules r (holds rule.condition p r) (by_verdict rule.verdict after (judged_by rules p after))
    (judged_by rules p r) (holds_decides rule.condition p r)
    (λ h. by_its_verdict p rule rules r rule.verdict (judged_by rules p after) refl h (answer_is_judged rules p after))
    (answer_is_judged rules p r)

pub judged_so :
    (rules : List Rule) (p : AddressPrefix) (r : Route) (result : Option Route) → Judged rules p r result → result ≡ judged_by rules p r
judged_so rules p r result h = one_result rules p r result (judged_by rules p r) h (answer_is_judged rules p r)
