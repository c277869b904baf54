-- Laws of outgoing filters, for the crates above.
use Rattle.std.specs.Prelude.{◌≡◌, ◌≢◌, Bool, true, List, Option, Some}
use Rattle.addr4.specs.Prefixes.{AddressPrefix}
use Rattle.addr4.specs.Hosts.{is_host_prefix}
use Rattle.bgp_attr.specs.Attributes.{Attrs}
use Rattle.bgp_attr.specs.Routes.{Route}
use Rattle.bgp_attr.specs.declared.speaker.Neighbour.{Neighbour}
use Rattle.link_change.specs.Rows.{Rows, no_rows}
use Rattle.policy_rules.specs.Rules.{Rule}
use Rattle.pass_core.specs.Split.{MakesNone}
use Rattle.pass_core.specs.Turns.{passed_rows}
use Rattle.filter_bank.specs.Outgoing.{Form, is_reflected, outgoing, first_walk}

-- Where no row is above, none is sent: so what holds of all walks holds of these.
abbrev pub NothingOfNothing : Type 0
NothingOfNothing = (form : Form Attrs) (peer : Neighbour) (rules : Option (List Rule)) → MakesNone (outgoing form peer rules)

-- A session begins with no row sent, whatever its rules.
abbrev pub NothingAtFirst : Type 0
NothingAtFirst =
    (form : Form Attrs) (peer : Neighbour) (rules : List Rule) (upper : Rows Route) → passed_rows (outgoing form peer) (first_walk rules) upper ≡ no_rows

-- what is sent is the form of a route with the attributes and the source of this one
abbrev pub IsFormOf : Form Attrs → AddressPrefix → Route → Attrs → Type 0
IsFormOf form p row sent = (r : Route) × (form.made p r ≡ Some sent) × (r.attrs ≡ row.attrs) × (r.from ≡ row.from)

-- Whatever the rules, only such forms are sent.
abbrev pub OnlyFormsOfRows : Type 0
OnlyFormsOfRows =
    (form : Form Attrs) (peer : Neighbour) (rules : Option (List Rule)) (p : AddressPrefix) (row : Route) (sent : Attrs)
    → outgoing form peer rules p (Some row) ≡ Some sent → IsFormOf form p row sent

-- the peer may get the route, whose prefix is one of the family's
pub record MayGo (v6 : Bool) (peer : Neighbour) (p : AddressPrefix) (r : Route) : Type 0 where
  pub not_back : (from : Neighbour) → r.from ≡ Some from → from.number ≢ peer.number
  pub reflected_inside : (from : Neighbour) → r.from ≡ Some from → peer.internal ≡ true → from.internal ≡ true → is_reflected from peer ≡ true
  pub of_hosts : is_host_prefix v6 p ≡ true

-- Whatever the rules, only such routes are sent.
abbrev pub OnlyWhatMayGo : Type 0
OnlyWhatMayGo =
    (form : Form Attrs) (peer : Neighbour) (rules : Option (List Rule)) (p : AddressPrefix) (r : Route) (a : Attrs)
    → outgoing form peer rules p (Some r) ≡ Some a → MayGo form.v6 peer p r
