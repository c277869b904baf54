-- The protocols' distances, by which the RIB prefers one route to another (NSDI 2005, section 5.2).
use Rattle.std.specs.Prelude.{◌≡◌, ℕ, if◌then◌else◌}
use Rattle.rib_route.specs.declared.Proto.{Proto}
use Rattle.rib_route.specs.declared.Proto.TheVariants as interior
use Rattle.rib_route.specs.declared.protocol.FibProto.{FibProto}
use Rattle.rib_route.specs.declared.protocol.FibProto.TheVariants.{Connected, Static, Ospf, Rip, Ebgp, Ibgp}
use Rattle.rib_route.specs.Rows.{External}

-- the administrative distance: the lesser is preferred
abbrev pub distance : FibProto → ℕ
distance Connected = 0
distance Static = 1
distance Ebgp = 20
distance Ospf = 110
distance Rip = 120
distance Ibgp = 200

-- an interior protocol, as the forwarding side names it
abbrev pub fib_proto : Proto → FibProto
fib_proto interior.Connected = Connected
fib_proto interior.Static = Static
fib_proto interior.Ospf = Ospf
fib_proto interior.Rip = Rip

-- the protocol of an external route
abbrev pub external_proto : External → FibProto
external_proto r = if r.internal then Ibgp else Ebgp

-- Different protocols have different distances.
abbrev pub DistancesDiffer : Type 0
DistancesDiffer = (a b : FibProto) → distance a ≡ distance b → a ≡ b
