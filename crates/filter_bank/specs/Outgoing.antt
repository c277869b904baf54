-- The outgoing filter to a peer (RFC 4271, sections 5.1.4, 9.1.3 and 9.2; RFC 4456, section 6): which routes the peer gets, and in which form.
use Rattle.std.specs.Prelude.{◌≡◌, ℕ, ◌==◌, ◌⊎◌, not, ◌&&◌, ◌||◌, Bool, false, if◌then◌else◌, List, Option, Some, None}
use Rattle.addr4.specs.Prefixes.{AddressPrefix}
use Rattle.addr4.specs.Hosts.{is_host_prefix}
use Rattle.bgp_attr.specs.Routes.{Route}
use Rattle.bgp_attr.specs.declared.speaker.Neighbour.{Neighbour}
use Rattle.policy_rules.specs.Rules.{Rule}
use Rattle.policy_rules.specs.Verdicts.{judged_by}
use Rattle.pass_core.specs.Passed.{Passed, begun}

-- of which family's network it is, and what is sent of a route at a prefix, or none where it can't be
pub record Form (R : Type 0) : Type 0 where
  pub v6 : Bool
  pub made : AddressPrefix → Route → Option R

-- a route of one goes to the other inside the AS: this speaker reflects it, since one of them is its client (RFC 4456, section 6)
abbrev pub is_reflected : Neighbour → Neighbour → Bool
is_reflected from to = from.client || to.client

-- the route came from the peer itself, or from another internal peer where this one is internal too (section 9.2), unless it is reflected
abbrev pub is_kept_from : Neighbour → Option Neighbour → Bool
is_kept_from peer None = false
is_kept_from peer (Some from) = from.number == peer.number || (from.internal && peer.internal && not (is_reflected from peer))

-- the peer may get the route, if the rules let it: it isn't kept from the peer, and its prefix is one of the family's hosts
abbrev pub may_go : Bool → Neighbour → AddressPrefix → Route → Bool
may_go v6 peer p r = not (is_kept_from peer r.from) && is_host_prefix v6 p

-- the route before any rule: MULTI_EXIT_DISC of another AS doesn't go to an external peer (section 5.1.4)
abbrev pub first_out : Neighbour → Route → Route
first_out peer r = if peer.internal then r else record r { med = None }

-- what the rules make of a route, where there are rules; without, nothing is sent
abbrev pub let_by : Option (List Rule) → AddressPrefix → Route → Option Route
let_by None p r = None
let_by (Some rules) p r = judged_by rules p r

-- the route that goes out at a prefix of the family
abbrev pub let_out : Bool → Neighbour → Option (List Rule) → AddressPrefix → Option Route → Option Route
let_out v6 peer rules p None = None
let_out v6 peer rules p (Some r) = if may_go v6 peer p r then let_by rules p (first_out peer r) else None

abbrev pub formed : {R : Type 0} → Form R → AddressPrefix → Option Route → Option R
formed form p None = None
formed form p (Some r) = form.made p r

-- what the filter makes of the route at a prefix, by rules, or by none
abbrev pub outgoing : {R : Type 0} → Form R → Neighbour → Option (List Rule) → AddressPrefix → Option Route → Option R
outgoing form peer rules p row = formed form p (let_out form.v6 peer rules p row)

-- a session begins: nothing is sent, and a walk brings its rules into force
abbrev pub first_walk : List Rule → Passed (Option (List Rule))
first_walk rules = record { in_force = None; walk = Some (begun (Some rules)) }

-- what stands there is a route, if anything is, of the peer of this number
abbrev pub ComesFrom : ℕ → Option Route → Type 0
ComesFrom number row = (r : Route) → row ≡ Some r → (from : Neighbour) × (r.from ≡ Some from) × (from.number ≡ number)

-- this was asked for that peer of a row: the row, or nothing where it is a route of the peer itself
abbrev pub IsRowFor : ℕ → Option Route → Option Route → Type 0
IsRowFor number row asked = (asked ≡ row) ⊎ ((asked ≡ None) × ComesFrom number row)
