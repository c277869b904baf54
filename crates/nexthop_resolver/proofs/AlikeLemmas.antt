-- The tests of what is kept of an answer tell equal ones.
use Rattle.std.proofs.Common.{◌≡◌, ℕ, Bool, true, false, Decides, Option, Some, None, refl, ap}
use Rattle.std.proofs.lemmas.Bool.Decides.{Decides-eqb, Decides-and, Decides-like}
use Rattle.std.proofs.lemmas.Slice.Eq.{bytes_eq-Decides}
use Rattle.std.specs.Option.{option_eq}
use Rattle.std.specs.Str.{bytes_eq}
use Rattle.nexthop_resolver.specs.declared.rows.Metric.{Metric}
use Rattle.nexthop_resolver.specs.Ways.{Outlet, Way}
use Rattle.nexthop_resolver.specs.Kept.{same_metric, same_outlet, same_way}
use Rattle.nexthop_resolver.specs.Left.{TellsAlike}
use Rattle.nexthop_resolver.proofs.MoveLemmas.{same_some}

options_told : {X : Type 0} (E : X → X → Bool) → ((a b : X) → Decides (E a b) (a ≡ b)) → (x y : Option X) → Decides (option_eq E x y) (x ≡ y)
options_told E told None None = (λ _. refl, λ _. refl)
options_told E told None (Some b) = (λ e. absurd (let clash : false ≡ true = e in cc), λ e. absurd (cc))
options_told E told (Some a) None = (λ e. absurd (let clash : false ≡ true = e in cc), λ e. absurd (cc))
options_told E told (Some a) (Some b) = Decides-like (E a b) (λ is. ap Some is) (λ is. same_some a b is) (told a b)

pub tells_metrics : TellsAlike same_metric
tells_metrics x y = Decides-like (same_metric x y) (λ is. ap (λ (o : Option ℕ). record { igp = o }) is) (λ is. ap (λ (m : Metric). m.igp) is) (options_told _ Decides-eqb x.igp y.igp)

outlets_told : (a b : Outlet) → Decides (same_outlet a b) (a ≡ b)
outlets_told a b =
    Decides-like (same_outlet a b) (λ both. λ i. record { gateway = both.0 i; iface = both.1 i }) (λ is. (ap (λ (o : Outlet). o.gateway) is, ap (λ (o : Outlet). o.iface) is))
    (Decides-and _ (bytes_eq a.iface b.iface) (options_told _ Decides-eqb a.gateway b.gateway) (bytes_eq-Decides a.iface b.iface))

pub tells_ways : TellsAlike same_way
tells_ways x y = Decides-like (same_way x y) (λ is. ap (λ (o : Option Outlet). record { outlet = o }) is) (λ is. ap (λ (w : Way). w.outlet) is) (options_told same_outlet outlets_told x.outlet y.outlet)
