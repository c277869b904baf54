-- Laws of the side of next hops.
use Rattle.std.proofs.Common.{◌≡◌, ℕ, true, false, List, Option, Some, None, option_map, is_some, refl, sym, ap, subst, ◌∙◌, arith}
use Rattle.std.specs.List.{sum_by}
use Rattle.std.proofs.lemmas.List.Sums.{sum_by-le-sum_by}
use Rattle.std.specs.Map.{values_of}
use Rattle.std.specs.FinMap as tables
use Rattle.std.specs.FinMap.{get-empty, contains_key-keys, nat_cmp-IsAntisymmetric}
use Rattle.std.specs.Ordering.{nat_cmp}
use Rattle.std.specs.Cmp.{nat_cmp_total}
use Rattle.std.proofs.lemmas.Map.Views.{Contains-from_any, tells_apart}
use Rattle.addr4.specs.Prefixes.{AddressPrefix}
use Rattle.link_change.proofs.RowLemmas.{same_function}
use Rattle.link_change.proofs.MapLemmas.{no_entries, all_entries, one_of_sum, sum_within}
use Rattle.nexthop_resolver.specs.declared.rows.Metric.{Metric}
use Rattle.nexthop_resolver.specs.Kept.{route_hop, metric_of, with_metric}
use Rattle.nexthop_resolver.specs.Resolving.{Resolving}
use Rattle.nexthop_resolver.proofs.AgreeLemmas.{others_agree}
use Rattle.nexthop_resolver.proofs.HeldLemmas as held
use Rattle.nexthop_resolver.specs.Left.{is_busy}
use Rattle.nexthop_resolver.proofs.AlikeLemmas.{tells_metrics}
use Rattle.nexthop_resolver.proofs.LeftLemmas as left
use Rattle.journal_text.specs.declared.link.Link.{Link}
use Rattle.journal_text.specs.declared.link.Link.TheVariants.{Res}
use Rattle.journal_text.specs.Lines.{Value}
use Rattle.journal_text.specs.Walk.{Links, Leads}
use Rattle.hop_side.specs.Resolvers.{resolver_at, PeerRows, link_by, hop_links, is_res, beside, busy_by, lags_by, known_of, same_metric, left_of, left_in, walks_of}
use Rattle.hop_side.specs.Laws.{StandsAtFirst, LeadsAnywhere, StrangersAgree, ExactUnlessHeldUp, NoneHeldUpWithoutWork, WorkIsListed, NoneLeftWithoutWork, TurnsAreBounded, LeftFollows}
use Rattle.hop_side.proofs.TaskLemmas.{idle_sum}

-- ---- at first
not_there : (k : ℕ) (s : Resolving Metric) (P : Type 0) → resolver_at k tables.empty ≡ Some s → P
not_there k s P at = let none : resolver_at k tables.empty ≡ None = get-empty nat_cmp k in absurd (cc)

empty_sum : (f : Resolving Metric → ℕ) → sum_by f (tables.values (tables.empty {X = Resolving Metric} {R = nat_cmp})) ≡ 0
empty_sum f = ap (λ (es : List (ℕ × Resolving Metric)). sum_by f (values_of es)) (no_entries nat_cmp)

no_link : (uppers : PeerRows) (link : Link) → hop_links tables.empty uppers link ≡ None
no_link uppers (Res k) = ap (λ (o : Option (Resolving Metric)). link_by o (uppers k)) (get-empty nat_cmp k)
no_link uppers other = refl

pub stands_at_first : StandsAtFirst tables.empty
stands_at_first = record {
  links = no_link;
  sound = λ k s at. not_there k s _ at;
  agree = λ r k s at. not_there k s _ at;
  counted = λ uppers k s at. not_there k s _ at;
  known = empty_sum known_of;
  left = λ beyonds. empty_sum (left_of beyonds);
}

-- ---- links
among : (before links : Links Value) → ((k : ℕ) → before (Res k) ≡ links (Res k)) → beside before links ≡ before
among before links is = same_function _ _ each
  where
    each : (link : Link) → beside before links link ≡ before link
    each (Res k) = sym (is k)
    each other = refl

set_among : (before after links : Links Value) → ((k : ℕ) → after (Res k) ≡ links (Res k)) → ((link : Link) → is_res link ≡ false → after link ≡ before link) → beside before links ≡ after
set_among before after links is same = same_function _ _ each
  where
    each : (link : Link) → beside before links link ≡ after link
    each (Res k) = sym (is k)
    each other = sym (same other refl)

pub leads_anywhere : LeadsAnywhere
leads_anywhere old new entries before after leads was is same =
    subst (λ (l : Links Value). Leads l entries after) (among before old was) (subst (λ (l : Links Value). Leads (beside before old) entries l) (set_among before after new is same) (leads before))

-- ---- the register
pub strangers_agree : StrangersAgree
strangers_agree a client was is hops none keeps agree k s at =
    others_agree metric_of s.client client s.known was is (λ e.
    let there : resolver_at client a ≡ Some s = ap (λ (n : ℕ). resolver_at n a) (sym e ∙ (hops k s at).client) ∙ at in
    cc) keeps (agree k s at)

-- ---- where no task holds up a prefix
pub exact_unless_held_up : ExactUnlessHeldUp
exact_unless_held_up a uppers r k s p hops agree counted at none =
    held.exact_unless_held_up same_metric tells_metrics route_hop with_metric metric_of (uppers k) r s p (agree k s at) (hops k s at).named (counted k s at)
    (sym (ap (λ (o : Option (Resolving Metric)). lags_by o p (option_map route_hop (uppers k p))) at) ∙ none)

none_by : (p : AddressPrefix) (hop : Option ℕ) (o : Option (Resolving Metric)) → busy_by o ≡ false → lags_by o p hop ≡ false
none_by p hop None idle = refl
none_by p hop (Some s) idle = held.none_held_up_at_rest same_metric tells_metrics s p hop (left.idle_rests same_metric s tells_metrics idle)

pub none_held_up_without_work : NoneHeldUpWithoutWork
none_held_up_without_work a k p hop idle = none_by p hop (resolver_at k a) idle

some_by : (o : Option (Resolving Metric)) → busy_by o ≡ true → is_some o ≡ true
some_by None works = works
some_by (Some s) works = refl

pub work_is_listed : WorkIsListed
work_is_listed a k works = Contains-from_any (tells_apart nat_cmp-IsAntisymmetric) k (tables.keys a) (sym (contains_key-keys a k) ∙ some_by (resolver_at k a) works)

-- ---- how many turns are left
pub none_left_without_work : NoneLeftWithoutWork
none_left_without_work a beyonds = (
  λ idle. idle_sum beyonds (tables.entries a) (all_entries nat_cmp_total (λ k s. is_busy same_metric s ≡ false) a (λ k s at. sym (ap busy_by at) ∙ idle k)),
  λ zero k. idle_by k zero (resolver_at k a) refl,
)
  where
    idle_by : (k : ℕ) → left_in beyonds a ≡ 0 → (o : Option (Resolving Metric)) → resolver_at k a ≡ o → busy_by o ≡ false
    idle_by k zero None at = refl
    idle_by k zero (Some s) at =
        let part = one_of_sum nat_cmp_total (left_of beyonds) a k s at in
        (left.none_left_without_work same_metric (beyonds s.client) s).1 (omega (arith, part, zero))

pub turns_bounded : TurnsAreBounded
turns_bounded a beyonds most = sum_within (left_of beyonds) known_of (walks_of beyonds) (tables.values a) (λ s. let b = left.turns_are_bounded same_metric (beyonds s.client) s (most s.client) in let t = b.turns in let k = b.stale in omega (arith, t, k))

pub left_follows : LeftFollows
left_follows a before now less = sum_by-le-sum_by (left_of now) (left_of before) (tables.values a) (λ s. left.left_follows same_metric (before s.client) (now s.client) s (less s.client))
