-- This speaker's own routes, and the links of the forwarding side, are those that are decided from scratch.
use Rattle.router_moments.proofs.Common.{◌∙◌, ap, ◌≡◌, ℕ, refl, true, not, AddressPrefix, Route, Neighbour, Speaker, fib_distance, Rows, way_of, over, redistributed, has, Protos, ext_is_of_best, StandsOver, ext_rows, RibExit, row_of_both, FibRow, Interior, on_link, kept_rows}
use Rattle.std.proofs.Common.{Option, Some, None}
use Rattle.std.specs.Prelude.{option_map}
use Rattle.rib_route.specs.Rows.{External}
use Rattle.rib_route.specs.Distances.{external_proto}
use Rattle.nexthop_resolver.specs.Kept.{first_router as way_router}
use Rattle.rib_split.specs.declared.split.BgpLink.TheVariants as sides
use Rattle.rib_split.specs.Splitting.{external_of, external_row as split_row}
use Rattle.live_state.specs.Decided.{own_row, sent_by, external_row, external_rows, first_router, over_interior, lesser_of}

-- ---- this speaker's own routes
pub own_at : (me : Speaker) (on : Protos) (p : AddressPrefix) (o : Option Interior) → redistributed me on p o ≡ own_row me (has on) o
own_at me on p None = refl
own_at me on p (Some row) = refl

-- ---- the links behind the splitter
external_sent : (hop : ℕ) (from : Option Neighbour) → on_link sides.Ebgp (external_of from hop) ≡ sent_by (λ w. not w.internal) hop from
external_sent hop None = refl
external_sent hop (Some peer) = refl

internal_sent : (hop : ℕ) (from : Option Neighbour) → on_link sides.Ibgp (external_of from hop) ≡ sent_by (λ w. w.internal) hop from
internal_sent hop None = refl
internal_sent hop (Some peer) = refl

any_sent : (hop : ℕ) (from : Option Neighbour) → external_of from hop ≡ sent_by (λ w. true) hop from
any_sent hop None = refl
any_sent hop (Some peer) = refl

ebgp_row : (o : Option Route) → on_link sides.Ebgp (split_row o) ≡ external_row (λ w. not w.internal) o
ebgp_row None = refl
ebgp_row (Some r) = external_sent r.attrs.next_hop r.from

ibgp_row : (o : Option Route) → on_link sides.Ibgp (split_row o) ≡ external_row (λ w. w.internal) o
ibgp_row None = refl
ibgp_row (Some r) = internal_sent r.attrs.next_hop r.from

ext_row : (o : Option Route) → split_row o ≡ external_row (λ w. true) o
ext_row None = refl
ext_row (Some r) = any_sent r.attrs.next_hop r.from

-- ---- the forwarding table
router_is : (gateway : Option ℕ) (hop : ℕ) → way_router gateway hop ≡ first_router gateway hop
router_is None hop = refl
router_is (Some gateway) hop = refl

pub over_is : (r : External) (found : Option (AddressPrefix × Interior)) → over r (way_of found) ≡ over_interior r (option_map (λ x. x.1) found)
over_is r None = refl
over_is r (Some x) = ap (λ (n : ℕ). Some (record { proto = external_proto r; gateway = Some n; iface = x.1.iface })) (router_is x.1.gateway r.next_hop)

pub lesser_is : (one other : Option FibRow) → row_of_both fib_distance one other ≡ lesser_of one other
lesser_is None other = refl
lesser_is (Some one) None = refl
lesser_is (Some one) (Some other) = refl

-- ---- the RIB's exit, where it has these best routes
module _ (e : RibExit) (best : Rows Route) (stands : StandsOver best e) where
  pub ebgp_is : kept_rows e.splitter sides.Ebgp ≡ external_rows (λ w. not w.internal) best
  ebgp_is = ap (λ links. links sides.Ebgp) stands.links ∙ (λ i q. ebgp_row (best q) i)

  pub ibgp_is : kept_rows e.splitter sides.Ibgp ≡ external_rows (λ w. w.internal) best
  ibgp_is = ap (λ links. links sides.Ibgp) stands.links ∙ (λ i q. ibgp_row (best q) i)

  pub ext_is : ext_rows e ≡ external_rows (λ w. true) best
  ext_is = ext_is_of_best e best stands ∙ (λ i q. ext_row (best q) i)
