-- What contracts see of a function that is changed in the background.
use Rattle.std.specs.Prelude.{Bool, true, false, ◌||◌, Option, Some, None, is_some, if◌then◌else◌, refl}
use Rattle.std.specs.Coded.{Coded, code_by, coded×, coded_option}
use Rattle.std.specs.Ordering.{is_lt}
use Rattle.addr4.specs.Prefixes.{AddressPrefix, prefix_cmp, address_prefix_code}

-- the new function, how far the walk has come, and the function that waits for its end
pub record Walked (F : Type 0) : Type 0 where
  pub next : F
  pub place : Option AddressPrefix
  pub waiting : Option F

-- the function in force, and the walk that is on
pub record Passed (F : Type 0) : Type 0 where
  pub in_force : F
  pub walk : Option (Walked F)

-- ---- how they are stored
abbrev pub walked_code : {F : Type 0} → Coded F → Coded (Walked F)
walked_code {F} c =
    code_by (F × (Option AddressPrefix × Option F)) (coded× c (coded× (coded_option address_prefix_code) (coded_option c)))
    (λ w. (w.next, (w.place, w.waiting))) (λ p. record { next = p.0; place = p.1.0; waiting = p.1.1 }) (λ _. refl)

abbrev pub passed_code : {F : Type 0} → Coded F → Coded (Passed F)
passed_code {F} c =
    code_by (F × Option (Walked F)) (coded× c (coded_option (walked_code c)))
    (λ s. (s.in_force, s.walk)) (λ p. record { in_force = p.0; walk = p.1 }) (λ _. refl)

-- ---- what the calls do
-- whether the prefix lies beyond the place
abbrev pub is_beyond : Option AddressPrefix → AddressPrefix → Bool
is_beyond None q = true
is_beyond (Some p) q = is_lt (prefix_cmp p q)

module _ {F : Type 0} where
  abbrev pub function_of : F → Option (Walked F) → AddressPrefix → F
  function_of in_force None q = in_force
  function_of in_force (Some w) q = if is_beyond w.place q then in_force else w.next

  -- the function that holds at a prefix: beyond the place of a walk the one in force, up to it the new one
  abbrev pub function_at : Passed F → AddressPrefix → F
  function_at s = function_of s.in_force s.walk

  abbrev pub latest_of : F → Option F → F
  latest_of other None = other
  latest_of other (Some waiting) = waiting

  abbrev pub present_of : F → Option (Walked F) → F
  present_of in_force None = in_force
  present_of in_force (Some w) = latest_of w.next w.waiting

  -- the function of the latest edit
  abbrev pub present : Passed F → F
  present s = present_of s.in_force s.walk

  abbrev pub is_followed : Option (Walked F) → Bool
  is_followed None = false
  is_followed (Some w) = is_some w.waiting

  -- whether a function waits for the end of a walk
  abbrev pub waits : Passed F → Bool
  waits s = is_followed s.walk

  abbrev pub lags_by : Option (Walked F) → AddressPrefix → Bool
  lags_by None q = false
  lags_by (Some w) q = is_beyond w.place q || is_some w.waiting

  -- whether another function than the latest one may hold at a prefix: a walk is on, and the prefix lies beyond its place, or a
  -- function waits
  abbrev pub holds_up : Passed F → AddressPrefix → Bool
  holds_up s q = lags_by s.walk q

  -- a walk that stands before all prefixes, for which nothing waits
  abbrev pub begun : F → Walked F
  begun f = record { next = f; place = None; waiting = None }

  abbrev pub walk_edited : Option (Walked F) → F → Walked F
  walk_edited None f = begun f
  walk_edited (Some w) f = record w { waiting = Some f }

  -- the function begins a walk, or waits for the end of the one that is on
  abbrev pub edited : Passed F → F → Passed F
  edited s f = record s { walk = Some (walk_edited s.walk f) }

  abbrev pub walk_stepped : Option (Walked F) → AddressPrefix → Option (Walked F)
  walk_stepped None p = None
  walk_stepped (Some w) p = Some (record w { place = Some p })

  -- the walk stands at the prefix
  abbrev pub stepped : Passed F → AddressPrefix → Passed F
  stepped s p = record s { walk = walk_stepped s.walk p }

  abbrev pub walk_of_waiting : Option F → Option (Walked F)
  walk_of_waiting None = None
  walk_of_waiting (Some f) = Some (begun f)

  abbrev pub after_walk : F → Option (Walked F) → Passed F
  after_walk in_force None = record { in_force = in_force; walk = None }
  after_walk in_force (Some w) = record { in_force = w.next; walk = walk_of_waiting w.waiting }

  -- the new function is in force, and the one that waited begins a walk
  abbrev pub finished : Passed F → Passed F
  finished s = after_walk s.in_force s.walk
