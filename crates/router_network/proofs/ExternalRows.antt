-- What forwarding needs of the rows of all branches.
use Rattle.router_moments.proofs.Common.{sym, ◌∙◌, ap, ◌≡◌, ◌≢◌, ℕ, refl, true, false, Bool, cond, zero, suc, AddressPrefix, Route, Speaker, Rows, Resolvers, resolver_at, rows_by, Resolving, Metric, Passed, Protos, Chained, filt_rows, Chains, filt_by, Interior, own_rows, lent_rows, function_at}
use Rattle.std.proofs.Common.{Option, Some, None, is_some}
use Rattle.std.specs.Prelude.{option_map, if◌then◌else◌}
use Rattle.bgp_attr.specs.Attributes.{Attrs}
use Rattle.filter_bank.specs.Filtered.{filtered, route_hop}
use Rattle.filter_bank.proofs.LawLemmas.{filtered_keeps_attrs}
use Rattle.in_chain.specs.Incomings.{in_rows}
use Rattle.nexthop_resolver.specs.Kept.{with_igp, with_metric}
use Rattle.nexthop_resolver.specs.Resolving.{Answers, passes, made_by, goes_on}
use Rattle.redist.specs.Local.{is_on, local_route}
use Rattle.rib_split.specs.Splitting.{external_of, external_row}
use Rattle.router_moments.specs.Bests.{lent_chain, lent_resolved}

-- ---- this speaker's own rows need nothing
pub own_external : (s : Option Speaker) (passed : Passed Protos) (int : Rows Interior) (p : AddressPrefix) → external_row (own_rows s passed int p) ≡ None
own_external None passed int p = refl
own_external (Some me) passed int p = by_on (is_on (function_at passed p) (int p))
  where
    by_on : (on : Bool) → external_row (if on then Some (local_route me) else None) ≡ None
    by_on true = refl
    by_on false = refl

-- ---- a row of `res.K` has the next hop and the sender of the one of `filt.K`
by_metric : (r : Route) (igp : Option ℕ) → external_row (with_igp r igp) ≡ cond (is_some (with_igp r igp)) (external_row (Some r)) None
by_metric r None = refl
by_metric r (Some metric) = refl

by_answer : (r : Route) (answer : Option Metric) → external_row (made_by route_hop with_metric r answer) ≡ cond (is_some (made_by route_hop with_metric r answer)) (external_row (Some r)) None
by_answer r None = refl
by_answer r (Some answer) = by_metric r answer.igp

by_row : (answers : Answers Metric) (row : Option Route) → external_row (goes_on route_hop with_metric answers row) ≡ cond (is_some (goes_on route_hop with_metric answers row)) (external_row row) None
by_row answers None = refl
by_row answers (Some r) = by_answer r (answers (route_hop r))

res_external : (o : Option (Resolving Metric)) (upper : Rows Route) (p : AddressPrefix) → external_row (rows_by o upper p) ≡ cond (is_some (rows_by o upper p)) (external_row (upper p)) None
res_external None upper p = refl
res_external (Some s) upper p = by_row (function_at (passes s) p) (upper p)

-- ---- a row of `filt.K` is of its peer
sender : (c : Chained) (p : AddressPrefix) (attrs : Option Attrs) (r : Route) → filtered c.me c.peer (function_at c.filter p) p attrs ≡ Some r → r.from ≡ Some c.peer
sender c p None r is = absurd (let clash : ◌≡◌ {A = Option Route} None (Some r) = is in cc)
sender c p (Some attrs) r is = (filtered_keeps_attrs c.me c.peer (function_at c.filter p) p attrs r is).from_peer

filt_external : (c : Chained) (p : AddressPrefix) (hop : ℕ) → option_map route_hop (filt_rows c p) ≡ Some hop → external_row (filt_rows c p) ≡ external_of (Some c.peer) hop
filt_external c p hop named = by_made (filt_rows c p) refl named
  where
    by_made : (row : Option Route) → filt_rows c p ≡ row → option_map route_hop row ≡ Some hop → external_row row ≡ external_of (Some c.peer) hop
    by_made None is e = absurd (let clash : ◌≡◌ {A = Option ℕ} None (Some hop) = e in cc)
    by_made (Some r) is e =
        let same : route_hop r ≡ hop = cc in
        ap (λ (o : Option _). external_of o (route_hop r)) (sender c p (in_rows c.incoming p) r is) ∙ ap (external_of (Some c.peer)) same

-- ---- and a row of `res.K` is of the sender of the one of `filt.K`
same_sender : (u r : Route) (igp : Option ℕ) → with_igp u igp ≡ Some r → r.from ≡ u.from
same_sender u r None is = absurd (let clash : ◌≡◌ {A = Option Route} None (Some r) = is in cc)
same_sender u r (Some metric) is = let same : record u { igp = Some metric } ≡ r = cc in sym (ap (λ (x : Route). x.from) same)

abbrev HasSender : Option Route → Route → Type 0
HasSender row r = (u : Route) × (row ≡ Some u) × (r.from ≡ u.from)

sent_answer : (u r : Route) (answer : Option Metric) → made_by route_hop with_metric u answer ≡ Some r → r.from ≡ u.from
sent_answer u r None is = absurd (let clash : ◌≡◌ {A = Option Route} None (Some r) = is in cc)
sent_answer u r (Some answer) is = same_sender u r answer.igp is

sent_row : (answers : Answers Metric) (row : Option Route) (r : Route) → goes_on route_hop with_metric answers row ≡ Some r → HasSender row r
sent_row answers None r is = absurd (let clash : ◌≡◌ {A = Option Route} None (Some r) = is in cc)
sent_row answers (Some u) r is = (u, refl, sent_answer u r (answers (route_hop u)) is)

res_sender : (o : Option (Resolving Metric)) (upper : Rows Route) (p : AddressPrefix) (r : Route) → rows_by o upper p ≡ Some r → HasSender (upper p) r
res_sender None upper p r is = absurd (let clash : ◌≡◌ {A = Option Route} None (Some r) = is in cc)
res_sender (Some s) upper p r is = sent_row (function_at (passes s) p) (upper p) r is

-- ---- of a branch
module _ (own : Rows Route) (a : Chains) (h : Resolvers) (b : ℕ) (p : AddressPrefix) where
  peers_branch : b ≢ 0 → lent_rows own a h b ≡ lent_resolved a h b
  peers_branch peer = by_number b peer
    where
      by_number : (n : ℕ) → n ≢ 0 → lent_rows own a h n ≡ lent_resolved a h n
      by_number zero apart = absurd (apart refl)
      by_number (suc n) apart = refl

  resolved_is : (chain : Option Chained) → lent_chain a b ≡ chain → b ≢ 0 → lent_rows own a h b p ≡ rows_by (resolver_at b h) (filt_by chain) p
  resolved_is chain is peer = ap (λ (rows : Rows Route). rows p) (peers_branch peer) ∙ ap (λ (o : Option Chained). rows_by (resolver_at b h) (filt_by o) p) is

  -- where there is no such row
  pub none_needed : (chain : Option Chained) → lent_chain a b ≡ chain → b ≢ 0 → is_some (rows_by (resolver_at b h) (filt_by chain) p) ≡ false → None ≡ external_row (lent_rows own a h b p)
  none_needed chain is peer none =
      sym (ap external_row (resolved_is chain is peer) ∙ res_external (resolver_at b h) (filt_by chain) p ∙ ap (λ (t : Bool). cond t (external_row (filt_by chain p)) None) none)

  -- and where there is one
  pub one_needed : (c : Chained) (hop : ℕ) → lent_chain a b ≡ Some c → b ≢ 0 → option_map route_hop (filt_rows c p) ≡ Some hop → is_some (rows_by (resolver_at b h) (filt_rows c) p) ≡ true
      → external_of (Some c.peer) hop ≡ external_row (lent_rows own a h b p)
  one_needed c hop is peer named there =
      sym (ap external_row (resolved_is (Some c) is peer) ∙ res_external (resolver_at b h) (filt_rows c) p ∙ ap (λ (t : Bool). cond t (external_row (filt_rows c p)) None) there
      ∙ filt_external c p hop named)

  -- where the peer has no row above
  pub none_above : (chain : Option Chained) → lent_chain a b ≡ chain → b ≢ 0 → filt_by chain p ≡ None → None ≡ external_row (lent_rows own a h b p)
  none_above chain is peer none =
      sym (ap external_row (resolved_is chain is peer) ∙ res_external (resolver_at b h) (filt_by chain) p ∙ ap (cond (is_some (rows_by (resolver_at b h) (filt_by chain) p)) (external_row (filt_by chain p))) refl
      ∙ by_there (is_some (rows_by (resolver_at b h) (filt_by chain) p)))
    where
      by_there : (t : Bool) → cond t (external_row (filt_by chain p)) None ≡ None
      by_there true = ap external_row none
      by_there false = refl

  -- its rows are its peer's
  pub of_peer : (c : Chained) → lent_chain a b ≡ Some c → b ≢ 0 → (r : Route) → lent_rows own a h b p ≡ Some r → r.from ≡ Some c.peer
  of_peer c is peer r at =
      let sent = res_sender (resolver_at b h) (filt_rows c) p r (sym (resolved_is (Some c) is peer) ∙ at) in
      sent.2 ∙ sender c p (in_rows c.incoming p) sent.0 sent.1
