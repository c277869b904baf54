-- What rules make of attributes that can be printed can be printed.
use Rattle.std.proofs.Common.{◌≡◌, ℕ, ◌^◌, ◌<◌, Bool, true, false, cond, List, [], ◌∷◌, Option, Some, None, sym, ap, subst, ◌∙◌, arith}
use Rattle.addr4.specs.Prefixes.{AddressPrefix}
use Rattle.bgp_attr.specs.Attributes.{Attrs}
use Rattle.bgp_attr.specs.Routes.{Route}
use Rattle.bgp_attr.specs.Speakers.{Speaker}
use Rattle.bgp_attr.specs.declared.speaker.Neighbour.{Neighbour}
use Rattle.bgp_wire.proofs.ReadableLaws.{Every, all_every}
use Rattle.policy_rules.specs.declared.rule.Action.{Action}
use Rattle.policy_rules.specs.declared.rule.Action.TheVariants.{Pref, Med, NoMed, Prepend}
use Rattle.policy_rules.specs.Rules.{Rule}
use Rattle.policy_rules.specs.declared.rule.Verdict.{Verdict}
use Rattle.policy_rules.specs.declared.rule.Verdict.TheVariants.{Accept, Reject, Next}
use Rattle.policy_rules.specs.Ranges.{IsAction, IsRule}
use Rattle.policy_rules.specs.Judged.{done, acted}
use Rattle.policy_rules.specs.Verdicts.{holds, by_verdict, judged_by}
use Rattle.filter_bank.specs.Filtered.{first_pref, first_route, is_own, filtered}
use Rattle.filter_bank.proofs.LawLemmas.{filtered_keeps_attrs}
use Rattle.journal_text.specs.Texts.{sender_number}
use Rattle.journal_check.specs.Laws.{IsNumberIfAny, HasRanges, HasRouteRanges}
use Rattle.journal_laws.specs.Printed.{HasRoom, HasAddresses}
use Rattle.journal_laws.specs.Laws.{FilteredIsPrintable}
use Rattle.journal_laws.proofs.Spans.{some_same, not_some}

-- ---- rules keep the ranges

ranges_done : (a : Action) (r : Route) → IsAction a → HasRouteRanges r → HasRouteRanges (done a r)
ranges_done (Pref n) r small h = record { attrs = h.attrs; pref = small; med = h.med; prepend = h.prepend; igp = h.igp; from = h.from }
ranges_done (Med n) r small h = record { attrs = h.attrs; pref = h.pref; med = small; prepend = h.prepend; igp = h.igp; from = h.from }
ranges_done NoMed r small h = record { attrs = h.attrs; pref = h.pref; med = tt; prepend = h.prepend; igp = h.igp; from = h.from }
ranges_done (Prepend n) r small h = record { attrs = h.attrs; pref = h.pref; med = h.med; prepend = omega arith; igp = h.igp; from = h.from }

ranges_acted : (actions : List Action) (r : Route) → Every IsAction actions → HasRouteRanges r → HasRouteRanges (acted actions r)
ranges_acted [] r small h = h
ranges_acted (a ∷ actions) r small h = ranges_acted actions (done a r) small.1 (ranges_done a r small.0 h)

ranges_judged : (v6 as4 : Bool) (rules : List Rule) (p : AddressPrefix) (r result : Route) → Every (IsRule v6 as4) rules → HasRouteRanges r → judged_by rules p r ≡ Some result → HasRouteRanges result
ranges_judged v6 as4 [] p r result are h e = subst HasRouteRanges (some_same r result e) h
ranges_judged v6 as4 (rule ∷ rules) p r result are h e =
    let after = ranges_acted rule.actions r (all_every IsAction rule.actions are.0.actions) h in
    by_test (holds rule.condition p r) e after (ranges_judged v6 as4 rules p r result are.1 h) (ranges_judged v6 as4 rules p (acted rule.actions r) result are.1 after)
  where
    by_answer : (v : Verdict) → by_verdict v (acted rule.actions r) (judged_by rules p (acted rule.actions r)) ≡ Some result → HasRouteRanges (acted rule.actions r)
        → (judged_by rules p (acted rule.actions r) ≡ Some result → HasRouteRanges result) → HasRouteRanges result
    by_answer Accept e after later = subst HasRouteRanges (some_same (acted rule.actions r) result e) after
    by_answer Reject e after later = absurd (not_some result e)
    by_answer Next e after later = later e

    by_test : (b : Bool) → cond b (by_verdict rule.verdict (acted rule.actions r) (judged_by rules p (acted rule.actions r))) (judged_by rules p r) ≡ Some result → HasRouteRanges (acted rule.actions r)
        → (judged_by rules p r ≡ Some result → HasRouteRanges result) → (judged_by rules p (acted rule.actions r) ≡ Some result → HasRouteRanges result) → HasRouteRanges result
    by_test true e after passed later = by_answer rule.verdict e after later
    by_test false e after passed later = passed e

-- ---- the route before any rule

first_pref_small : (internal : Bool) (n : Option ℕ) → IsNumberIfAny n → first_pref internal n < 2 ^ 32
first_pref_small true (Some n) h = h
first_pref_small true None h = omega arith
first_pref_small false n h = omega arith

first_ranges : (peer : Neighbour) (a : Attrs) → peer.number < 2 ^ 8 → HasRanges a → HasRouteRanges (first_route peer a)
first_ranges peer a small h = record { attrs = h; pref = first_pref_small peer.internal a.local_pref h.local_pref; med = h.med; prepend = omega arith; igp = tt; from = small }

-- ---- the route below

filtered_ranges : (v6 : Bool) (me : Speaker) (peer : Neighbour) (as4 : Bool) (rules : List Rule) (p : AddressPrefix) (a : Attrs) (r : Route) → peer.number < 2 ^ 8 → Every (IsRule v6 as4) rules → HasRanges a → filtered me peer rules p (Some a) ≡ Some r → HasRouteRanges r
filtered_ranges v6 me peer as4 rules p a r small are h e = by_own (is_own me a) e
  where
    by_own : (b : Bool) → cond b None (judged_by rules p (first_route peer a)) ≡ Some r → HasRouteRanges r
    by_own true e = absurd (not_some r e)
    by_own false e = ranges_judged v6 as4 rules p (first_route peer a) r are (first_ranges peer a small h) e

pub filtered_printable : FilteredIsPrintable
filtered_printable printing me peer as4 rules p a r known small are h e =
    let of = filtered_keeps_attrs me peer rules p a r e in
    let from : r.from ≡ printing.peers (sender_number r.from) = of.from_peer ∙ sym (ap (λ (o : Option Neighbour). printing.peers (sender_number o)) of.from_peer ∙ known) in
    record {
      well_told = record {
        ranges = filtered_ranges printing.v6 me peer as4 rules p a r small (all_every (IsRule printing.v6 as4) rules are) h.well_told.ranges e;
        told = (subst (HasAddresses printing.v6) (sym of.same_attrs) h.well_told.told, from);
      };
      short = subst (HasRoom printing.v6) (sym of.same_attrs) h.short;
    }
