-- What contracts see of a resolver, and the rows below it: those above, each by the answer about its next hop.
use Rattle.std.specs.Prelude.{◌≡◌, ℕ, Bool, true, Option, Some, None, refl}
use Rattle.std.specs.Option.{option_map}
use Rattle.std.specs.Coded.{Coded, code_by, coded×, coded_ℕ, coded_option}
use Rattle.std.specs.FinMap as map
use Rattle.addr4.specs.Prefixes.{AddressPrefix, address_prefix_code}
use Rattle.link_change.specs.Rows.{Rows}
use Rattle.nexthop_known.specs.Hops.{Hops, hop_code}
use Rattle.nexthop_known.specs.Counts.{Counts}
use Rattle.pass_core.specs.Passed.{Passed, Walked, is_beyond}
use Rattle.pass_core.specs.Turns.{passed_rows}

-- whom the register knows it as; how many rows above name each next hop; the answers about these; and the place of the walk that is on
pub record Resolving (A : Type 0) : Type 0 where
  pub client : ℕ
  pub counts : Counts
  pub known : Hops A
  pub walk : Option (Option AddressPrefix)

abbrev pub resolving_code : {A : Type 0} → Coded A → Coded (Resolving A)
resolving_code {A} c =
    code_by ((ℕ × Counts) × (Hops A × Option (Option AddressPrefix)))
    (coded× (coded× coded_ℕ (map.code coded_ℕ coded_ℕ)) (coded× (map.code coded_ℕ (hop_code c)) (coded_option (coded_option address_prefix_code))))
    (λ r. ((r.client, r.counts), (r.known, r.walk))) (λ p. record { client = p.0.0; counts = p.0.1; known = p.1.0; walk = p.1.1 }) (λ _. refl)

-- nothing is known yet
abbrev pub nothing_known : {A : Type 0} → ℕ → Resolving A
nothing_known client = record { client = client; counts = map.empty; known = map.empty; walk = None }

-- known are exactly the next hops that rows name
abbrev pub AreNamed : {A : Type 0} → Counts → Hops A → Type 0
AreNamed counts known = (a : ℕ) → map.contains_key known a ≡ map.contains_key counts a

-- the answers that hold, by next hop
abbrev pub Answers : Type 0 → Type 0
Answers A = ℕ → Option A

module _ {A : Type 0} where
  abbrev pub in_force_by : Hops A → Answers A
  in_force_by known a = option_map (λ h. h.in_force) (map.get known a)

  abbrev pub fresh_by : Hops A → Answers A
  fresh_by known a = option_map (λ h. h.fresh) (map.get known a)

  abbrev pub walk_to : Answers A → Option (Option AddressPrefix) → Option (Walked (Answers A))
  walk_to fresh None = None
  walk_to fresh (Some place) = Some (record { next = fresh; place = place; waiting = None })

  -- the answers in force, and in a walk the fresh ones up to its place
  abbrev pub passes : Resolving A → Passed (Answers A)
  passes s = record { in_force = in_force_by s.known; walk = walk_to (fresh_by s.known) s.walk }

  -- a walk is on, at a place
  abbrev pub at_place : Resolving A → Option AddressPrefix → Resolving A
  at_place s place = record s { walk = Some place }

  -- one that begins stands before all prefixes
  abbrev pub begun : Resolving A → Resolving A
  begun s = at_place s None

-- whether the answers in force hold at a prefix
abbrev pub is_in_force : Option (Option AddressPrefix) → AddressPrefix → Bool
is_in_force None q = true
is_in_force (Some place) q = is_beyond place q

module _ {A R L : Type 0} (hop : R → ℕ) (made : R → A → Option L) where
  abbrev pub made_by : R → Option A → Option L
  made_by r None = None
  made_by r (Some answer) = made r answer

  -- what a row goes on as by the answers
  abbrev pub goes_on : Answers A → Option R → Option L
  goes_on answers None = None
  goes_on answers (Some r) = made_by r (answers (hop r))

  -- whatever its prefix
  abbrev pub resolved : Answers A → AddressPrefix → Option R → Option L
  resolved answers q row = goes_on answers row

  -- the rows of the link below
  abbrev pub res_rows : Resolving A → Rows R → Rows L
  res_rows s upper = passed_rows resolved (passes s) upper

-- the next hop that each row names
abbrev pub named_by : {R : Type 0} → (R → ℕ) → Rows R → Rows ℕ
named_by hop upper q = option_map hop (upper q)
