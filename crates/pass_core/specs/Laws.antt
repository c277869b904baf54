-- Laws of a function that is changed in the background, for the crates above.
use Rattle.std.specs.Prelude.{◌≡◌, ℕ, ◌+◌, ◌*◌, ◌<◌, ◌≤◌, true, false, is_some, Option, Some, None}
use Rattle.addr4.specs.Prefixes.{AddressPrefix}
use Rattle.addr4.specs.Places.{IsBeyond}
use Rattle.link_change.specs.Rows.{Rows, Candidates, IsNextCandidate, CoversRows, with_row, computed_rows}
use Rattle.link_change.specs.Changes.{IsSent, IsChangeOf}
use Rattle.link_change.specs.Turns.{IsTurned}
use Rattle.link_change.specs.Changes.{Change}
use Rattle.link_change.specs.Turns.{Turn}
use Rattle.pass_core.specs.Passed.{Passed, Walked, function_at, holds_up, present, edited, stepped, finished}
use Rattle.pass_core.specs.Split.{split, MakesNone}
use Rattle.pass_core.specs.Turns.{passed, passed_rows, row_lags, IsPassedOn, Walks, IsWalked}
use Rattle.pass_core.specs.Left.{CountsBeyond, turns_left}

-- Without a walk the function in force holds at each prefix.
abbrev pub HoldsEverywhere : Type 0 → Type 0
HoldsEverywhere F = (s : Passed F) (q : AddressPrefix) → s.walk ≡ None → function_at s q ≡ s.in_force

-- Beyond the place of a walk the function in force holds.
abbrev pub HoldsBeyond : Type 0 → Type 0
HoldsBeyond F = (s : Passed F) (w : Walked F) (q : AddressPrefix) → s.walk ≡ Some w → IsBeyond w.place q → function_at s q ≡ s.in_force

-- Up to the place of a walk, that prefix included, the new function holds.
abbrev pub HoldsBehind : Type 0 → Type 0
HoldsBehind F = (s : Passed F) (w : Walked F) (q : AddressPrefix) → s.walk ≡ Some w → (IsBeyond w.place q → ⊥) → function_at s q ≡ w.next

-- After a step the new function holds at each prefix that isn't beyond the one that was stepped to.
abbrev pub StepSetsBehind : Type 0 → Type 0
StepSetsBehind F =
    (s : Passed F) (w : Walked F) (p q : AddressPrefix) → s.walk ≡ Some w → (IsBeyond (Some p) q → ⊥)
    → function_at (stepped s p) q ≡ w.next

-- A step changes what holds at no prefix beyond the one that was stepped to.
abbrev pub StepKeepsBeyond : Type 0 → Type 0
StepKeepsBeyond F =
    (s : Passed F) (w : Walked F) (p q : AddressPrefix) → s.walk ≡ Some w → IsBeyond w.place p → IsBeyond (Some p) q
    → function_at (stepped s p) q ≡ function_at s q

-- Nor at one that isn't beyond the place before the step.
abbrev pub StepKeepsBehind : Type 0 → Type 0
StepKeepsBehind F =
    (s : Passed F) (w : Walked F) (p q : AddressPrefix) → s.walk ≡ Some w → IsBeyond w.place p → (IsBeyond w.place q → ⊥)
    → function_at (stepped s p) q ≡ function_at s q

-- An edit changes what holds nowhere.
abbrev pub EditKeeps : Type 0 → Type 0
EditKeeps F = (s : Passed F) (f : F) (q : AddressPrefix) → function_at (edited s f) q ≡ function_at s q

-- After the end of a walk its function holds at each prefix.
abbrev pub FinishSets : Type 0 → Type 0
FinishSets F = (s : Passed F) (w : Walked F) (q : AddressPrefix) → s.walk ≡ Some w → function_at (finished s) q ≡ w.next

-- The end of a walk changes what holds only beyond its place.
abbrev pub FinishKeepsBehind : Type 0 → Type 0
FinishKeepsBehind F =
    (s : Passed F) (w : Walked F) (q : AddressPrefix) → s.walk ≡ Some w → (IsBeyond w.place q → ⊥)
    → function_at (finished s) q ≡ function_at s q

-- The function of an edit is the latest.
abbrev pub EditIsPresent : Type 0 → Type 0
EditIsPresent F = (s : Passed F) (f : F) → present (edited s f) ≡ f

-- A step leaves the latest function as it is.
abbrev pub StepKeepsPresent : Type 0 → Type 0
StepKeepsPresent F = (s : Passed F) (p : AddressPrefix) → present (stepped s p) ≡ present s

-- So does the end of a walk.
abbrev pub FinishKeepsPresent : Type 0 → Type 0
FinishKeepsPresent F = (s : Passed F) → present (finished s) ≡ present s

-- ---- two functions and a place: whatever the function in force and the new one are
-- Before all prefixes the rows are those of the function in force.
abbrev pub SplitBegins : Type 0 → Type 0 → Type 0
SplitBegins A B =
    (in_force fresh : AddressPrefix → Option A → Option B) (upper : Rows A)
    → computed_rows (split in_force fresh None) upper ≡ computed_rows in_force upper

-- Beyond the place they are those of the function in force, and up to it those of the new one.
abbrev pub SplitBeyond : Type 0 → Type 0 → Type 0
SplitBeyond A B =
    (in_force fresh : AddressPrefix → Option A → Option B) (place : Option AddressPrefix) (upper : Rows A) (q : AddressPrefix) → IsBeyond place q
    → computed_rows (split in_force fresh place) upper q ≡ in_force q (upper q)

abbrev pub SplitBehind : Type 0 → Type 0 → Type 0
SplitBehind A B =
    (in_force fresh : AddressPrefix → Option A → Option B) (place : Option AddressPrefix) (upper : Rows A) (q : AddressPrefix) → (IsBeyond place q → ⊥)
    → computed_rows (split in_force fresh place) upper q ≡ fresh q (upper q)

-- A step to the next candidate changes the row there alone: to that of the new function.
abbrev pub SplitSteps : Type 0 → Type 0 → Type 0
SplitSteps A B =
    (in_force fresh : AddressPrefix → Option A → Option B) (candidates : Candidates) (upper : Rows A) (place : Option AddressPrefix) (p : AddressPrefix)
    → MakesNone in_force → MakesNone fresh → CoversRows candidates upper → IsNextCandidate candidates place (Some p)
    → computed_rows (split in_force fresh (Some p)) upper ≡ with_row (computed_rows (split in_force fresh place) upper) p (fresh p (upper p))

-- So the change of the row there leads from the rows before the step to those after it.
abbrev pub SplitSends : Type 0 → Type 0 → Type 0
SplitSends A B =
    (in_force fresh : AddressPrefix → Option A → Option B) (candidates : Candidates) (upper : Rows A) (place : Option AddressPrefix) (p : AddressPrefix) (sent : Option (Change B))
    → MakesNone in_force → MakesNone fresh → CoversRows candidates upper → IsNextCandidate candidates place (Some p)
    → IsChangeOf p (in_force p (upper p)) (fresh p (upper p)) sent
    → IsSent (computed_rows (split in_force fresh place) upper) (computed_rows (split in_force fresh (Some p)) upper) p sent

-- Where no candidate lies beyond the place, the rows are those of the new function.
abbrev pub SplitEnds : Type 0 → Type 0 → Type 0
SplitEnds A B =
    (in_force fresh : AddressPrefix → Option A → Option B) (candidates : Candidates) (upper : Rows A) (place : Option AddressPrefix)
    → MakesNone in_force → MakesNone fresh → CoversRows candidates upper → IsNextCandidate candidates place None
    → computed_rows (split in_force fresh place) upper ≡ computed_rows fresh upper

-- ---- a stage whose rows are made by one function after the other
-- At a prefix that no walk holds up, and at one without a row above, the row below is the one that the function of the latest edit
-- makes.
abbrev pub ExactUnlessHeldUp : Type 0 → Type 0 → Type 0 → Type 0
ExactUnlessHeldUp F A B =
    (apply : F → AddressPrefix → Option A → Option B) (s : Passed F) (q : AddressPrefix) (row : Option A) → ((f : F) → MakesNone (apply f))
    → row_lags s q row ≡ false → passed apply s q row ≡ apply (present s) q row

-- Where no walk is on, none holds up a prefix.
abbrev pub NoneLagsWithoutAWalk : Type 0 → Type 0 → Type 0
NoneLagsWithoutAWalk F A = (s : Passed F) (q : AddressPrefix) (row : Option A) → is_some s.walk ≡ false → row_lags s q row ≡ false

-- An edit changes no row below.
abbrev pub EditKeepsRows : Type 0 → Type 0 → Type 0 → Type 0
EditKeepsRows F A B =
    (apply : F → AddressPrefix → Option A → Option B) (s : Passed F) (f : F) (upper : Rows A)
    → passed_rows apply (edited s f) upper ≡ passed_rows apply s upper

-- Every row below stands at a candidate of the link above.
abbrev pub PassedIsCovered : Type 0 → Type 0 → Type 0 → Type 0
PassedIsCovered F A B =
    (apply : F → AddressPrefix → Option A → Option B) (s : Passed F) (candidates : Candidates) (upper : Rows A) → ((f : F) → MakesNone (apply f))
    → CoversRows candidates upper → CoversRows candidates (passed_rows apply s upper)

-- A change is passed on as the change of the row that the function at its prefix makes.
abbrev pub ChangeIsPassedOn : Type 0 → Type 0 → Type 0 → Type 0
ChangeIsPassedOn F A B =
    (apply : F → AddressPrefix → Option A → Option B) (s : Passed F) (change : Change A) (sent : Option (Change B))
    → IsChangeOf change.prefix (passed apply s change.prefix change.before) (passed apply s change.prefix change.after) sent
    → IsPassedOn apply s change sent

-- A turn that steps to the next candidate, and sends the change there.
abbrev pub StepWalks : Type 0 → Type 0 → Type 0 → Type 0
StepWalks F A B =
    (apply : F → AddressPrefix → Option A → Option B) (s : Passed F) (w : Walked F) (candidates : Candidates) (upper : Rows A) (p : AddressPrefix) (sent : Option (Change B))
    → ((f : F) → MakesNone (apply f)) → CoversRows candidates upper → s.walk ≡ Some w → IsNextCandidate candidates w.place (Some p)
    → IsChangeOf p (passed apply s p (upper p)) (passed apply (stepped s p) p (upper p)) sent
    → Walks apply candidates upper s (stepped s p) sent

-- One that finds none, and ends the walk.
abbrev pub EndWalks : Type 0 → Type 0 → Type 0 → Type 0
EndWalks F A B =
    (apply : F → AddressPrefix → Option A → Option B) (s : Passed F) (w : Walked F) (candidates : Candidates) (upper : Rows A)
    → ((f : F) → MakesNone (apply f)) → CoversRows candidates upper → s.walk ≡ Some w → IsNextCandidate candidates w.place None
    → Walks apply candidates upper s (finished s) None

-- What a turn of the walk sends leads from the rows below before it to those after it.
abbrev pub WalkLeads : Type 0 → Type 0 → Type 0 → Type 0
WalkLeads F A B =
    (apply : F → AddressPrefix → Option A → Option B) (candidates : Candidates) (upper : Rows A) (old new : Passed F) (turn : Turn B)
    → IsWalked apply candidates upper old new turn → IsTurned (passed_rows apply old upper) (passed_rows apply new upper) turn

-- ---- how many turns are left, whatever counts the candidates
-- After a turn fewer are left than before.
abbrev pub WalkIsSpent : Type 0 → Type 0 → Type 0 → Type 0
WalkIsSpent F A B =
    (apply : F → AddressPrefix → Option A → Option B) (candidates : Candidates) (upper : Rows A) (beyond : Option AddressPrefix → ℕ) (old new : Passed F) (sent : Option (Change B))
    → CountsBeyond candidates beyond → Walks apply candidates upper old new sent → turns_left beyond new < turns_left beyond old

-- At most those of two whole walks are left.
abbrev pub LeftIsBounded : Type 0 → Type 0
LeftIsBounded F =
    (candidates : Candidates) (beyond : Option AddressPrefix → ℕ) (s : Passed F) → CountsBeyond candidates beyond
    → turns_left beyond s ≤ 2 * (beyond None + 1)

-- Some are left exactly while a walk is on.
abbrev pub LeftWhileOn : Type 0 → Type 0
LeftWhileOn F =
    (beyond : Option AddressPrefix → ℕ) (s : Passed F)
    → (is_some s.walk ≡ true → 0 < turns_left beyond s) × (is_some s.walk ≡ false → turns_left beyond s ≡ 0)

-- Where no more candidates lie beyond any place than before, no more are left.
abbrev pub LeftFollows : Type 0 → Type 0
LeftFollows F =
    (before now : Option AddressPrefix → ℕ) (s : Passed F) → ((place : Option AddressPrefix) → now place ≤ before place)
    → turns_left now s ≤ turns_left before s
