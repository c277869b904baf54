-- Rules that pass a route on, one after the other.
use Rattle.std.proofs.Common.{◌≡◌, ℕ, suc, ◌+◌, ◌<◌, ◌≤◌, List, [], ◌∷◌, ◌++◌, length, get_or, take, drop, Option, Some, None, refl, sym, ◌∙◌, subst, ap}
use Rattle.std.proofs.Math.Seq.{drop-cons}
use Rattle.std.proofs.lemmas.List.{append-nil, take_all, take_more, take-append-drop}
use Rattle.addr4.specs.Prefixes.{AddressPrefix}
use Rattle.bgp_attr.specs.Routes.{Route}
use Rattle.policy_rules.specs.Rules.{Rule}
use Rattle.policy_rules.specs.declared.rule.Verdict.TheVariants.{Accept, Reject}
use Rattle.policy_rules.specs.Judged.{Judged, AllPassOn, PassesOn, EndsWith, Outcome, Decides, acted}

pub one_more :
    (p : AddressPrefix) (front : List Rule) (rule : Rule) (r between after : Route) →
    AllPassOn p front r between → PassesOn p rule between after → AllPassOn p (front ++ rule ∷ []) r after
one_more p [] rule r between after pass one = (after, (subst (λ x. PassesOn p rule x after) pass one, refl))
one_more p (f ∷ front) rule r between after pass one =
    (pass.0, (pass.1.0, one_more p front rule pass.0 between after pass.1.1 one))

pub one_more_at :
    (p : AddressPrefix) (rules : List Rule) (i : ℕ) (rule : Rule) (r between after : Route) →
    i < length rules → rule ≡ get_or rules i rule →
    AllPassOn p (take i rules) r between → PassesOn p rule between after → AllPassOn p (take (i + 1) rules) r after
one_more_at p rules i rule r between after below is pass one =
    subst (λ x. AllPassOn p x r after) (sym (take_more rules i rule below ∙ ap (λ (x : Rule). take i rules ++ x ∷ []) (sym is)))
    (one_more p (take i rules) rule r between after pass one)

pub accepts :
    (p : AddressPrefix) (rule : Rule) (more : List Rule) (r after : Route) →
    Outcome Accept rule p r after → EndsWith p (rule ∷ more) r (Some after)
accepts p rule more r after h = (h.0, subst (λ v. Decides v (acted rule.actions r) (Some after)) (sym h.1) (ap Some h.2))

pub rejects :
    (p : AddressPrefix) (rule : Rule) (more : List Rule) (r after : Route) →
    Outcome Reject rule p r after → EndsWith p (rule ∷ more) r None
rejects p rule more r after h = (h.0, subst (λ v. Decides v (acted rule.actions r) None) (sym h.1) refl)

pub decided :
    (p : AddressPrefix) (items rules : List Rule) (i : ℕ) (rule : Rule) (r between : Route) (result : Option Route) →
    items ≡ rules → i < length items → rule ≡ get_or items i rule →
    AllPassOn p (take i items) r between → EndsWith p (rule ∷ drop (suc i) items) between result → Judged rules p r result
decided p items rules i rule r between result same below is passed ended =
    subst (λ x. Judged x p r result) same (record {
      front = take i items;
      behind = rule ∷ drop (suc i) items;
      between = between;
      all = sym (take-append-drop i items) ∙ ap (λ x. take i items ++ x) (drop-cons items i rule below ∙ ap (λ (x : Rule). x ∷ drop (suc i) items) (sym is));
      pass = passed;
      ends = ended;
    })

pub passed_by_all :
    (p : AddressPrefix) (items rules : List Rule) (i : ℕ) (r between : Route) →
    items ≡ rules → length items ≤ i → AllPassOn p (take i items) r between → Judged rules p r (Some between)
passed_by_all p items rules i r between same end passed =
    subst (λ x. Judged x p r (Some between)) same (record {
      front = take i items;
      behind = [];
      between = between;
      all = sym (append-nil (take i items) ∙ take_all i items end);
      pass = passed;
      ends = refl;
    })
