-- Laws of stages: what they do leaves no choice.
use Rattle.std.specs.Prelude.{◌≡◌, ◌≢◌, Option}
use Rattle.addr4.specs.Prefixes.{AddressPrefix}
use Rattle.link_change.specs.Rows.{Rows, Candidates, IsNextCandidate}
use Rattle.link_change.specs.Changes.{IsSent, IsChangeOf, ComputesOn}
use Rattle.link_change.specs.Changes.{Change}
use Rattle.pass_core.specs.Passed.{Passed}
use Rattle.pass_core.specs.Turns.{IsPassedOn, Walks}

module _ (R : Type 0) where
  -- What was sent of rows that became other rows is one, at whatever prefix it is looked for.
  abbrev pub SentIsOne : Type 0
  SentIsOne = (old new : Rows R) (p q : AddressPrefix) (one other : Option (Change R)) → IsSent old new p one → IsSent old new q other → one ≡ other

  -- What was sent makes one thing of the rows.
  abbrev pub SentMakesOne : Type 0
  SentMakesOne = (old new now : Rows R) (p q : AddressPrefix) (sent : Option (Change R)) → IsSent old new p sent → IsSent old now q sent → new ≡ now

  -- The change of one row is one.
  abbrev pub ChangeIsOne : Type 0
  ChangeIsOne = (p : AddressPrefix) (before after : Option R) (one other : Option (Change R)) → IsChangeOf p before after one → IsChangeOf p before after other → one ≡ other

-- The least candidate beyond a place is one, or there is none.
abbrev pub NextIsOne : Type 0
NextIsOne = (candidates : Candidates) (place one other : Option AddressPrefix) → IsNextCandidate candidates place one → IsNextCandidate candidates place other → one ≡ other

-- What is computed of a change that differs from what stood there, is one.
abbrev pub ComputedIsOne : Type 0 → Type 0 → Type 0
ComputedIsOne A B =
    (f : AddressPrefix → Option A → Option B) (change : Change A) (one other : Option (Change B)) → change.after ≢ change.before → ComputesOn f change one → ComputesOn f change other
    → one ≡ other

module _ (F A B : Type 0) where
  -- So is what a stage passes on of it.
  abbrev pub PassedIsOne : Type 0
  PassedIsOne =
      (apply : F → AddressPrefix → Option A → Option B) (s : Passed F) (change : Change A) (one other : Option (Change B)) → change.after ≢ change.before
      → IsPassedOn apply s change one → IsPassedOn apply s change other → one ≡ other

  -- A turn of a walk goes to one place, and sends one thing.
  abbrev pub WalkIsOne : Type 0
  WalkIsOne =
      (apply : F → AddressPrefix → Option A → Option B) (candidates : Candidates) (upper : Rows A) (old new now : Passed F) (one other : Option (Change B))
      → Walks apply candidates upper old new one → Walks apply candidates upper old now other → (new ≡ now) × (one ≡ other)
