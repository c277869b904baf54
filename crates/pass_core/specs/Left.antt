-- How many turns a walk still takes.
use Rattle.std.specs.Prelude.{ℕ, ◌+◌, ◌<◌, ◌≤◌, Option, Some, None}
use Rattle.addr4.specs.Prefixes.{AddressPrefix}
use Rattle.link_change.specs.Rows.{Candidates, IsNextCandidate}
use Rattle.pass_core.specs.Passed.{Passed, Walked}

-- These numbers count what lies beyond each place, the candidates at least: a step to the next candidate leaves fewer beyond it,
-- and nowhere are more than beyond the place before all prefixes.
pub record CountsBeyond (candidates : Candidates) (beyond : Option AddressPrefix → ℕ) : Type 0 where
  pub fewer : (place : Option AddressPrefix) (p : AddressPrefix) → IsNextCandidate candidates place (Some p) → beyond (Some p) < beyond place
  pub most : (place : Option AddressPrefix) → beyond place ≤ beyond None

module _ {F : Type 0} (beyond : Option AddressPrefix → ℕ) where
  abbrev pub waiting_turns : Option F → ℕ
  waiting_turns None = 0
  waiting_turns (Some f) = beyond None + 1

  abbrev pub walk_turns : Option (Walked F) → ℕ
  walk_turns None = 0
  walk_turns (Some w) = beyond w.place + 1 + waiting_turns w.waiting

  -- one for each that lies beyond the place of the walk and one that ends it, and a whole walk more where a function waits
  abbrev pub turns_left : Passed F → ℕ
  turns_left s = walk_turns s.walk
