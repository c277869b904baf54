-- Which attributes rules accept: no condition looks at anything else of a route.
use Rattle.std.proofs.Common.{◌≡◌, ◌==◌, ◌&&◌, ◌+◌, ◌<◌, ◌≤◌, ℕ, nat_le, Bool, true, false, cond, List, [], ◌∷◌, length, drop, get_or, Option, None, is_some, refl, sym, ap, ◌∙◌}
use Rattle.std.specs.Prelude.{◌↔◌, IsTrue}
use Rattle.std.proofs.lemmas.List.{at_drop_more}
use Rattle.std.proofs.Math.ListN.{drop_of_length-le}
use Rattle.addr4.specs.Prefixes.{AddressPrefix}
use Rattle.bgp_attr.specs.Attributes.{Attrs}
use Rattle.bgp_attr.specs.Routes.{Route}
use Rattle.policy_rules.specs.Rules.{Condition}
use Rattle.policy_rules.specs.declared.rule.Condition.TheVariants.{Any, Within, Path, Origin}
use Rattle.policy_rules.specs.declared.rule.Verdict.{Verdict}
use Rattle.policy_rules.specs.declared.rule.Verdict.TheVariants.{Accept, Reject, Next}
use Rattle.policy_rules.specs.Rules.{Rule}
use Rattle.policy_rules.specs.Judged.{acted, Holds}
use Rattle.policy_rules.specs.Verdicts.{has_as, origin_number, covers, holds, by_verdict, judged_by}
use Rattle.policy_rules.proofs.KeptLemmas.{acted_keeps}
use Rattle.policy_rules.proofs.VerdictLemmas.{holds_decides}

abbrev pub holds_of : Condition → AddressPrefix → Attrs → Bool
holds_of Any p a = true
holds_of (Within q least most) p a = covers q p && (nat_le least p.length && nat_le p.length most)
holds_of (Path asn) p a = has_as a.path asn
holds_of (Origin o) p a = origin_number a.origin == origin_number o

abbrev pub lets_by : Verdict → Bool → Bool
lets_by Accept later = true
lets_by Reject later = false
lets_by Next later = later

abbrev pub accepted_by : List Rule → AddressPrefix → Attrs → Bool
accepted_by [] p a = true
accepted_by (rule ∷ rules) p a = cond (holds_of rule.condition p a) (lets_by rule.verdict (accepted_by rules p a)) (accepted_by rules p a)

holds_is : (c : Condition) (p : AddressPrefix) (r : Route) → holds c p r ≡ holds_of c p r.attrs
holds_is Any p r = refl
holds_is (Within q least most) p r = refl
holds_is (Path asn) p r = refl
holds_is (Origin o) p r = refl

lets : (v : Verdict) (r : Route) (later : Option Route) (b : Bool) → is_some later ≡ b → is_some (by_verdict v r later) ≡ lets_by v b
lets Accept r later b is = refl
lets Reject r later b is = refl
lets Next r later b is = is

by_cond : (t : Bool) (x y : Option Route) (b c : Bool) → is_some x ≡ b → is_some y ≡ c → is_some (cond t x y) ≡ cond t b c
by_cond true x y b c e f = e
by_cond false x y b c e f = f

pub accepted : (rules : List Rule) (p : AddressPrefix) (r : Route) → is_some (judged_by rules p r) ≡ accepted_by rules p r.attrs
accepted [] p r = refl
accepted (rule ∷ rules) p r =
    by_cond (holds rule.condition p r) (by_verdict rule.verdict (acted rule.actions r) (judged_by rules p (acted rule.actions r))) (judged_by rules p r)
    (lets_by rule.verdict (accepted_by rules p r.attrs)) (accepted_by rules p r.attrs)
    (lets rule.verdict (acted rule.actions r) (judged_by rules p (acted rule.actions r)) (accepted_by rules p r.attrs)
    (accepted rules p (acted rule.actions r) ∙ ap (accepted_by rules p) (acted_keeps rule.actions r).attrs))
    (accepted rules p r)
    ∙ ap (λ (t : Bool). cond t (lets_by rule.verdict (accepted_by rules p r.attrs)) (accepted_by rules p r.attrs)) (holds_is rule.condition p r)

-- ---- one rule of a list after the other
module _ (p : AddressPrefix) (a : Attrs) where
  -- the answer of the rules from a place on
  abbrev pub from : List Rule → ℕ → Bool
  from items i = accepted_by (drop i items) p a

  abbrev any_route : Route
  any_route = record { attrs = a; pref = 0; med = None; prepend = 0; igp = None; from = None }

  told : (c : Condition) (b t : Bool) → t ≡ b → (IsTrue t ↔ Holds c p any_route) → holds_of c p a ≡ b
  told c true t e is = sym (holds_is c p any_route) ∙ (holds_decides c p any_route).1 (is.0 e)
  told c false t e is = by_test (holds_of c p a) refl
    where
      by_test : (h : Bool) → holds_of c p a ≡ h → h ≡ false
      by_test false at = refl
      by_test true at = absurd (let so : t ≡ true = is.1 ((holds_decides c p any_route).0 (holds_is c p any_route ∙ at)) in let clash : true ≡ false = sym so ∙ e in cc)

  module _ (items : List Rule) (i : ℕ) (rule : Rule) (below : i < length items) (is : rule ≡ get_or items i rule) where
    stepped : from items i ≡ cond (holds_of rule.condition p a) (lets_by rule.verdict (from items (i + 1))) (from items (i + 1))
    stepped = at_drop_more (λ (rules : List Rule). accepted_by rules p a) items i rule below ∙ ap (λ (r : Rule). accepted_by (r ∷ drop (i + 1) items) p a) (sym is)

    -- a condition that doesn't hold passes on, and so does the verdict `next`
    pub passes : (t : Bool) → t ≡ false → ((r : Route) → r.attrs ≡ a → IsTrue t ↔ Holds rule.condition p r) → from items i ≡ from items (i + 1)
    passes t e so = stepped ∙ ap (λ (b : Bool). cond b (lets_by rule.verdict (from items (i + 1))) (from items (i + 1))) (told rule.condition false t e (so any_route refl))

    pub decides : (t : Bool) (v : Verdict) → t ≡ true → ((r : Route) → r.attrs ≡ a → IsTrue t ↔ Holds rule.condition p r) → rule.verdict ≡ v → from items i ≡ lets_by v (from items (i + 1))
    decides t v e so verdict =
        stepped ∙ ap (λ (b : Bool). cond b (lets_by rule.verdict (from items (i + 1))) (from items (i + 1))) (told rule.condition true t e (so any_route refl))
        ∙ ap (λ (x : Verdict). lets_by x (from items (i + 1))) verdict

  -- the answer, of any route with these attributes
  pub answer : (rules items : List Rule) (i : ℕ) (b : Bool) (r : Route) → items ≡ rules → accepted_by items p a ≡ from items i → from items i ≡ b → r.attrs ≡ a → b ≡ is_some (judged_by rules p r)
  answer rules items i b r same so far is = sym (accepted rules p r ∙ ap (accepted_by rules p) is ∙ ap (λ (l : List Rule). accepted_by l p a) (sym same) ∙ so ∙ far)

  pub at_end : (items : List Rule) (i : ℕ) → length items ≤ i → from items i ≡ true
  at_end items i past = ap (λ (l : List Rule). accepted_by l p a) (drop_of_length-le items past)
