-- The networks stay apart.
use Rattle.std.specs.Prelude.{◌≡◌, ℕ, true, false, List, []}
use Rattle.event_text.specs.Event.{Event}
use Rattle.event_text.specs.declared.event.FileEvent.{FileEvent}
use Rattle.event_text.specs.declared.event.FileEvent.TheVariants.{First, Second}
use Rattle.event_text.specs.FileEvents.{is_of_one}
use Rattle.journal_laws.specs.FamilyLines.{FamilyLine, lines_in}
use Rattle.router.specs.Networks.{Networks}
use Rattle.replay.specs.Output.{Step}

-- An event that names one family leaves the network of the other as it is, each of its links, and says nothing of it.
pub record StayApart (event : FileEvent) (m : Networks) (said : List FamilyLine) (next : Networks) : Type 0 where
  pub first : (own : Event) → event ≡ First own → is_of_one own ≡ true → (next.second ≡ m.second) × (lines_in true said ≡ [])
  pub second : (own : Event) → event ≡ Second own → (next.first ≡ m.first) × (lines_in false said ≡ [])

abbrev pub NetworksStayApart : Type 0
NetworksStayApart = (n : ℕ) (m next : Networks) (line : List ℕ) (said : List FamilyLine) → (step : Step n m line said next) → StayApart step.event m said next
