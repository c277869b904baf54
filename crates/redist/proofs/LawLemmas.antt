-- The laws of redistribution.
use Rattle.std.proofs.Common.{◌≡◌, Bool, true, false, cond, Option, Some, None, refl}
use Rattle.addr4.specs.Prefixes.{AddressPrefix}
use Rattle.bgp_attr.specs.Routes.{Route}
use Rattle.bgp_attr.specs.Speakers.{Speaker}
use Rattle.rib_route.specs.declared.Proto.{Proto}
use Rattle.rib_route.specs.declared.Proto.TheVariants.{Connected, Static, Ospf, Rip}
use Rattle.rib_route.specs.Rows.{Interior}
use Rattle.link_change.proofs.RowLemmas.{same_function}
use Rattle.redist.specs.Protocols.{no_protos, has}
use Rattle.redist.specs.Local.{local_route, is_on, redistributed}
use Rattle.redist.specs.Laws.{HasWhatIsPut, OthersStayPut, NothingOfNothing, NothingAtFirst, OnlyOwnRoutes}

pub has_what_is_put : HasWhatIsPut
has_what_is_put s Connected on = refl
has_what_is_put s Static on = refl
has_what_is_put s Ospf on = refl
has_what_is_put s Rip on = refl

pub others_stay_put : OthersStayPut
others_stay_put s Connected Connected on apart = absurd (apart refl)
others_stay_put s Static Static on apart = absurd (apart refl)
others_stay_put s Ospf Ospf on apart = absurd (apart refl)
others_stay_put s Rip Rip on apart = absurd (apart refl)
others_stay_put s proto other on apart = refl

pub makes_none : NothingOfNothing
makes_none me on q = refl

-- no protocol is in the empty set
never_on : (row : Option Interior) → is_on no_protos row ≡ false
never_on None = refl
never_on (Some row) = out row.proto
  where
    out : (p : Proto) → has no_protos p ≡ false
    out Connected = refl
    out Static = refl
    out Ospf = refl
    out Rip = refl

-- so nothing is made of any row
pub none_where_none_is_on : (me : Speaker) (p : AddressPrefix) (row : Option Interior) → redistributed me no_protos p row ≡ None
none_where_none_is_on me p row = let off = never_on row in rw off refl

pub nothing_at_first : NothingAtFirst
nothing_at_first me upper = same_function _ _ (λ q. let off = never_on (upper q) in rw off refl)

own : (on : Bool) (made route : Route) → cond on (Some made) None ≡ Some route → route ≡ made
own true made route e = cc
own false made route e = absurd (let f : None ≡ Some route = e in cc)

pub only_own_routes : OnlyOwnRoutes
only_own_routes me on p row route e = own (is_on on row) (local_route me) route e
