-- The laws of incoming filters.
use Rattle.std.proofs.Common.{◌≡◌, Bool, true, false, cond, is_some, List, Option, Some, None, option_map, IfSome, refl, sym, ap, subst, ◌∙◌}
use Rattle.addr4.specs.Prefixes.{AddressPrefix}
use Rattle.bgp_attr.specs.Attributes.{Attrs}
use Rattle.bgp_attr.specs.Routes.{Route}
use Rattle.bgp_attr.specs.Speakers.{Speaker}
use Rattle.bgp_attr.specs.declared.speaker.Neighbour.{Neighbour}
use Rattle.policy_rules.specs.Rules.{Rule}
use Rattle.policy_rules.specs.Judged.{KeepsSource}
use Rattle.policy_rules.specs.Verdicts.{judged_by}
use Rattle.policy_rules.proofs.KeptLemmas.{judged_keeps}
use Rattle.policy_rules.proofs.VerdictLemmas.{answer_is_judged}
use Rattle.pass_core.specs.Split.{MakesNone}
use Rattle.pass_core.proofs.TurnLemmas as turns
use Rattle.filter_bank.specs.Filtered.{filtered, first_route, is_own, route_hop}
use Rattle.filter_bank.specs.Laws.{ExactUnlessHeldUp, EditKeepsRows, WalkLeads, FilteredKeepsAttrs}

pub exact_unless_held_up : ExactUnlessHeldUp
exact_unless_held_up me peer pass q row none = turns.exact_unless_held_up (filtered me peer) pass q row (λ rules p. refl) none

pub an_edit_keeps_the_rows : EditKeepsRows
an_edit_keeps_the_rows me peer pass rules upper = turns.an_edit_keeps_the_rows (filtered me peer) pass rules upper

pub a_walk_leads : WalkLeads
a_walk_leads me peer candidates upper old new turn h = turns.a_walk_leads (filtered me peer) candidates upper old new turn h

-- where no row is above, none is made
pub makes_none : (me : Speaker) (peer : Neighbour) (rules : List Rule) → MakesNone (filtered me peer rules)
makes_none me peer rules q = refl

kept : (own : Bool) (judged : Option Route) (first r : Route) → IfSome judged (KeepsSource first) → cond own None judged ≡ Some r
    → KeepsSource first r
kept true judged first r h e = absurd (let f : cond true None judged ≡ Some r = e in cc)
kept false judged first r h e = subst (λ o. IfSome o (KeepsSource first)) e h

pub filtered_keeps_attrs : FilteredKeepsAttrs
filtered_keeps_attrs me peer rules p attrs r e =
    let first = first_route peer attrs in
    let same =
    kept (is_own me attrs) (judged_by rules p first) first r
    (judged_keeps p rules first (judged_by rules p first) (answer_is_judged rules p first)) e in
    record { same_attrs = same.attrs; from_peer = same.from; no_metric = same.igp }

-- ---- next hops
-- no rule changes the next hop
judged_hop : (rules : List Rule) (p : AddressPrefix) (r : Route) (accepted : Bool) → accepted ≡ is_some (judged_by rules p r) → (o : Option Route) → judged_by rules p r ≡ o → IfSome o (KeepsSource r)
    → cond accepted (Some (route_hop r)) None ≡ option_map route_hop o
judged_hop rules p r accepted told None at keeps = ap (λ (b : Bool). cond b (Some (route_hop r)) None) (told ∙ ap (λ (o : Option Route). is_some o) at)
judged_hop rules p r accepted told (Some after) at keeps =
    ap (λ (b : Bool). cond b (Some (route_hop r)) None) (told ∙ ap (λ (o : Option Route). is_some o) at) ∙ ap (λ (a : Attrs). Some a.next_hop) (sym keeps.attrs)

pub filtered_hop_is : (me : Speaker) (peer : Neighbour) (rules : List Rule) (p : AddressPrefix) (a : Attrs) (own accepted : Bool) → own ≡ is_own me a → accepted ≡ is_some (judged_by rules p (first_route peer a))
    → cond own None (cond accepted (Some a.next_hop) None) ≡ option_map route_hop (filtered me peer rules p (Some a))
filtered_hop_is me peer rules p a own accepted is told =
    ap (λ (b : Bool). cond b None (cond accepted (Some a.next_hop) None)) is ∙ by_own (is_own me a)
  where
    by_own : (b : Bool) → cond b None (cond accepted (Some a.next_hop) None) ≡ option_map route_hop (cond b None (judged_by rules p (first_route peer a)))
    by_own true = refl
    by_own false = judged_hop rules p (first_route peer a) accepted told (judged_by rules p (first_route peer a)) refl (judged_keeps p rules (first_route peer a) (judged_by rules p (first_route peer a)) (answer_is_judged rules p (first_route peer a)))
