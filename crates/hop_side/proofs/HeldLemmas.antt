-- Whether a peer's row goes on to `res.K`.
use Rattle.std.proofs.Common.{◌≡◌, ℕ, Option, Some, None, is_some, refl, sym, ap, ◌∙◌}
use Rattle.std.specs.Prelude.{option_map, option_and_then}
use Rattle.addr4.specs.Prefixes.{AddressPrefix}
use Rattle.bgp_attr.specs.Routes.{Route}
use Rattle.link_change.specs.Rows.{Rows}
use Rattle.nexthop_resolver.specs.declared.rows.Metric.{Metric}
use Rattle.nexthop_resolver.specs.Kept.{route_hop, with_metric}
use Rattle.nexthop_resolver.specs.Resolving.{Resolving, passes, made_by, goes_on as as_it_goes_on}
use Rattle.pass_core.specs.Passed.{function_at}
use Rattle.hop_side.specs.Resolvers.{Resolvers, resolver_at, rows_by, metric_rows}

igp_tells : (r : Route) (answer : Option Metric) → is_some (option_and_then (λ m. m.igp) answer) ≡ is_some (made_by route_hop with_metric r answer)
igp_tells r None = refl
igp_tells r (Some m) = by_igp m.igp refl
  where
    by_igp : (igp : Option ℕ) → m.igp ≡ igp → is_some m.igp ≡ is_some (with_metric r m)
    by_igp None e = cc
    by_igp (Some n) e = cc

row_goes_on : (s : Resolving Metric) (p : AddressPrefix) (hop : ℕ) (upper : Rows Route) (row : Option Route) → upper p ≡ row → option_map route_hop row ≡ Some hop
    → is_some (option_and_then (λ m. m.igp) (function_at (passes s) p hop)) ≡ is_some (metric_rows s upper p)
row_goes_on s p hop upper None at named = absurd (cc)
row_goes_on s p hop upper (Some r) at named =
    let is : route_hop r ≡ hop = cc in
    ap (λ (h : ℕ). is_some (option_and_then (λ m. m.igp) (function_at (passes s) p h))) (sym is) ∙ igp_tells r (function_at (passes s) p (route_hop r))
    ∙ ap (λ (o : Option Route). is_some (as_it_goes_on route_hop with_metric (function_at (passes s) p) o)) (sym at)

pub goes_on : (a : Resolvers) (k : ℕ) (p : AddressPrefix) (hop : ℕ) (named : Option ℕ) (upper : Rows Route) → option_map route_hop (upper p) ≡ named → named ≡ Some hop → (s : Resolving Metric) → resolver_at k a ≡ Some s
    → is_some (option_and_then (λ m. m.igp) (function_at (passes s) p hop)) ≡ is_some (rows_by (resolver_at k a) upper p)
goes_on a k p hop named upper is some s at = row_goes_on s p hop upper (upper p) refl (is ∙ some) ∙ ap (λ (o : Option (Resolving Metric)). is_some (rows_by o upper p)) (sym at)
