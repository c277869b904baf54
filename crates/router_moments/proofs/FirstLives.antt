-- At first nothing is live.
use Rattle.std.proofs.Common.{◌≡◌, Bool, false, refl, ap}
use Rattle.std.specs.Ordering.{nat_cmp}
use Rattle.std.specs.FinMap as tables
use Rattle.std.specs.FinMap.{get-empty}
use Rattle.event_text.specs.Declarations.{no_declaration}
use Rattle.rib_route.specs.declared.Proto.{Proto}
use Rattle.rib_route.specs.declared.Proto.TheVariants.{Connected, Static, Ospf, Rip}
use Rattle.peer_side.specs.Peers.{routes_of, rules_of}
use Rattle.live_state.specs.Lives.{first_live}
use Rattle.router_moments.specs.Lives.{live_state}
use Rattle.router_moments.specs.Moments.{first_moment, rules_by}

module _ (v6 : Bool) where
  interior_at_first : (proto : Proto) → (live_state (first_moment v6)).interior proto ≡ tables.empty
  interior_at_first Connected = refl
  interior_at_first Static = refl
  interior_at_first Ospf = refl
  interior_at_first Rip = refl

  losses_at_first : (proto : Proto) → (live_state (first_moment v6)).losses proto ≡ 0
  losses_at_first Connected = refl
  losses_at_first Static = refl
  losses_at_first Ospf = refl
  losses_at_first Rip = refl

  none_at_first : (proto : Proto) → (live_state (first_moment v6)).redistributed proto ≡ false
  none_at_first Connected = refl
  none_at_first Static = refl
  none_at_first Ospf = refl
  none_at_first Rip = refl

  pub live_at_first : live_state (first_moment v6) ≡ first_live v6
  live_at_first i = record {
    declared = no_declaration v6;
    routes = λ k. ap routes_of (get-empty nat_cmp k) i;
    rules = λ k. ap rules_of (get-empty nat_cmp k) i;
    outgoing = λ k. ap rules_by (get-empty nat_cmp k) i;
    interior = λ proto. interior_at_first proto i;
    losses = λ proto. losses_at_first proto i;
    redistributed = λ proto. none_at_first proto i;
  }
