-- Two networks of stages, one for each family of addresses, over one declaration of peers. A network is a core of `router_core`, whose
-- moment is that of `router_moments`, whatever its family.
use Rattle.std.specs.Prelude.{◌≡◌, ◌≤◌, Bool, true, false, Option, Some, None, option_map, refl}
use Rattle.std.specs.Coded.{Coded, code_by, coded×, coded_bool, coded_option}
use Rattle.bgp_attr.specs.declared.speaker.Profile.{Profile}
use Rattle.event_text.specs.FileEvents.{with_ipv6}
use Rattle.router_moments.specs.Moments.{Moment, Cored, first_moment, profiled}
use Rattle.router_moments.specs.Stands.{CoreStands}
use Rattle.router.specs.Ties.{AreTied, in_second}

-- IPv4's network, and IPv6's, from `local6` on
pub record Networks : Type 0 where
  pub first : Moment
  pub second : Option Moment

-- nothing was declared
abbrev pub first_networks : Networks
first_networks = record { first = first_moment false; second = None }

-- a claim of each network, by whether it is IPv6's
abbrev pub OfSecond : {M : Type 0} → (M → Type 0) → Option M → Type 0
OfSecond P None = Unit {0}
OfSecond P (Some m) = P m

abbrev pub OfEach : (Bool → Moment → Type 0) → Networks → Type 0
OfEach P m = P false m.first × OfSecond (P true) m.second

-- the cores of both, and whether memory ran out
pub record Routed : Type 0 where
  pub first : Cored
  pub second : Option Cored
  pub failed : Bool

abbrev pub routed_code : Coded Cored → Coded Routed
routed_code c =
    code_by (Cored × (Option Cored × Bool)) (coded× c (coded× (coded_option c) coded_bool))
    (λ r. (r.first, (r.second, r.failed))) (λ p. record { first = p.0; second = p.1.0; failed = p.1.1 }) (λ _. refl)

abbrev pub moment_of : Cored → Moment
moment_of c = c.moment

abbrev pub networks_of : Routed → Networks
networks_of r = record { first = r.first.moment; second = option_map moment_of r.second }

-- ---- what holds of them
-- What holds of the second core: it is tied to the first, and has stepped no more events.
pub record SecondStands (first second : Cored) : Type 0 where
  pub stands : CoreStands second
  pub few : second.events ≤ first.events
  pub tied : AreTied first.moment.declared second.moment.declared

-- where it is there; IPv6 is spoken exactly then
abbrev pub IsSecondOf : Cored → Option Cored → Type 0
IsSecondOf first None = first.moment.declared.profile.v6 ≡ false
IsSecondOf first (Some second) = SecondStands first second

-- What holds of both between two events.
pub record BothStand (first : Cored) (second : Option Cored) : Type 0 where
  pub family : first.moment.declared.v6 ≡ false
  pub stands : CoreStands first
  pub behind : IsSecondOf first second

-- and between two calls, where memory didn't run out
pub record RouterStands (r : Routed) : Type 0 where
  pub good : r.failed ≡ false
  pub both : BothStand r.first r.second

-- ---- `local6`
-- the second network, to which nothing was declared yet
abbrev pub second_moment : Profile → Moment
second_moment profile = profiled (first_moment true) (in_second (with_ipv6 profile))

-- Both networks know the same of what was declared; where the second isn't there, IPv6 isn't spoken.
abbrev pub IsTiedTo : Moment → Option Moment → Type 0
IsTiedTo first None = first.declared.profile.v6 ≡ false
IsTiedTo first (Some second) = AreTied first.declared second.declared

pub record KnowTheSame (m : Networks) : Type 0 where
  pub family : m.first.declared.v6 ≡ false
  pub tied : IsTiedTo m.first m.second

-- the network of a family, where it is there
abbrev pub network_of : Bool → Networks → Option Moment
network_of false m = Some m.first
network_of true m = m.second
