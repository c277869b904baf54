-- Sets of interior protocols.
use Rattle.std.specs.Prelude.{Bool, false}
use Rattle.rib_route.specs.declared.Proto.{Proto}
use Rattle.rib_route.specs.declared.Proto.TheVariants.{Connected, Static, Ospf, Rip}
use Rattle.redist.specs.declared.protos.Protos.{Protos}

-- the empty set
abbrev pub no_protos : Protos
no_protos = record { connected = false; statics = false; ospf = false; rip = false }

-- the protocol is in the set
abbrev pub has : Protos → Proto → Bool
has s Connected = s.connected
has s Static = s.statics
has s Ospf = s.ospf
has s Rip = s.rip

-- the set with the protocol in it, or without
abbrev pub with_proto : Protos → Proto → Bool → Protos
with_proto s Connected on = record s { connected = on }
with_proto s Static on = record s { statics = on }
with_proto s Ospf on = record s { ospf = on }
with_proto s Rip on = record s { rip = on }
