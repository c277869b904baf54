-- Laws of incoming filters, for the crates above.
use Rattle.std.specs.Prelude.{◌≡◌, false, List, Option, Some, None}
use Rattle.addr4.specs.Prefixes.{AddressPrefix}
use Rattle.bgp_attr.specs.Attributes.{Attrs}
use Rattle.bgp_attr.specs.Routes.{Route}
use Rattle.bgp_attr.specs.Speakers.{Speaker}
use Rattle.bgp_attr.specs.declared.speaker.Neighbour.{Neighbour}
use Rattle.link_change.specs.Rows.{Rows, Candidates}
use Rattle.link_change.specs.Turns.{IsTurned}
use Rattle.link_change.specs.Turns.{Turn}
use Rattle.policy_rules.specs.Rules.{Rule}
use Rattle.pass_core.specs.Passed.{Passed, present, edited}
use Rattle.pass_core.specs.Turns.{passed, row_lags}
use Rattle.filter_bank.specs.Filtered.{filtered, passed_rows}
use Rattle.filter_bank.specs.Walks.{IsWalked}

-- At a prefix that no walk holds up, and at one without a row above, the row below is what the rules of the latest edit make.
abbrev pub ExactUnlessHeldUp : Type 0
ExactUnlessHeldUp =
    (me : Speaker) (peer : Neighbour) (pass : Passed (List Rule)) (q : AddressPrefix) (row : Option Attrs) → row_lags pass q row ≡ false
    → passed (filtered me peer) pass q row ≡ filtered me peer (present pass) q row

-- An edit changes no row below.
abbrev pub EditKeepsRows : Type 0
EditKeepsRows =
    (me : Speaker) (peer : Neighbour) (pass : Passed (List Rule)) (rules : List Rule) (upper : Rows Attrs)
    → passed_rows me peer (edited pass rules) upper ≡ passed_rows me peer pass upper

-- What a turn of the walk sends leads from the rows below before it to those after it.
abbrev pub WalkLeads : Type 0
WalkLeads =
    (me : Speaker) (peer : Neighbour) (candidates : Candidates) (upper : Rows Attrs) (old new : Passed (List Rule)) (turn : Turn Route)
    → IsWalked me peer candidates upper old new turn → IsTurned (passed_rows me peer old upper) (passed_rows me peer new upper) turn

-- a route with these attributes from the peer, whose interior metric isn't known yet
pub record IsRouteOf (peer : Neighbour) (attrs : Attrs) (r : Route) : Type 0 where
  pub same_attrs : r.attrs ≡ attrs
  pub from_peer : r.from ≡ Some peer
  pub no_metric : r.igp ≡ None

-- Whatever the rules, a row below has the attributes of the row above.
abbrev pub FilteredKeepsAttrs : Type 0
FilteredKeepsAttrs =
    (me : Speaker) (peer : Neighbour) (rules : List Rule) (p : AddressPrefix) (attrs : Attrs) (r : Route)
    → filtered me peer rules p (Some attrs) ≡ Some r → IsRouteOf peer attrs r
