-- Laws of redistribution, for the crates above.
use Rattle.std.specs.Prelude.{◌≡◌, ◌≢◌, Bool, Some, None, Option}
use Rattle.addr4.specs.Prefixes.{AddressPrefix}
use Rattle.bgp_attr.specs.Routes.{Route}
use Rattle.bgp_attr.specs.Speakers.{Speaker}
use Rattle.rib_route.specs.declared.Proto.{Proto}
use Rattle.rib_route.specs.Rows.{Interior}
use Rattle.link_change.specs.Rows.{Rows, no_rows}
use Rattle.pass_core.specs.Split.{MakesNone}
use Rattle.pass_core.specs.Turns.{passed_rows}
use Rattle.redist.specs.declared.protos.Protos.{Protos}
use Rattle.redist.specs.Protocols.{no_protos, has, with_proto}
use Rattle.redist.specs.Local.{local_route, redistributed}

-- A protocol that was put into a set is in it, one that was taken out isn't, and every other stays as it was.
abbrev pub HasWhatIsPut : Type 0
HasWhatIsPut = (s : Protos) (p : Proto) (on : Bool) → has (with_proto s p on) p ≡ on

abbrev pub OthersStayPut : Type 0
OthersStayPut = (s : Protos) (p q : Proto) (on : Bool) → q ≢ p → has (with_proto s p on) q ≡ has s q

-- Where no interior row is, none is made: so what holds of all walks holds of these.
abbrev pub NothingOfNothing : Type 0
NothingOfNothing = (me : Speaker) (on : Protos) → MakesNone (redistributed me on)

-- At first nothing is redistributed.
abbrev pub NothingAtFirst : Type 0
NothingAtFirst = (me : Speaker) (upper : Rows Interior) → passed_rows (redistributed me) (record { in_force = no_protos; walk = None }) upper ≡ no_rows

-- Every row is the route of the speaker's own, and stands where the interior row is of a protocol of the set.
abbrev pub OnlyOwnRoutes : Type 0
OnlyOwnRoutes =
    (me : Speaker) (on : Protos) (p : AddressPrefix) (row : Option Interior) (route : Route) → redistributed me on p row ≡ Some route
    → route ≡ local_route me
