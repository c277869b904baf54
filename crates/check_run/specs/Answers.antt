-- What `check` writes, and how it ends.
use Rattle.std.specs.Prelude.{◌≡◌, ℕ, List, [], ◌∷◌, ◌++◌, codes}
use Rattle.std.specs.Fmt.{decimal}
use Rattle.journal_check.specs.Judged.{IsChecked}
use Rattle.journal_check.specs.declared.checked.Checked.{Checked}
use Rattle.journal_check.specs.declared.checked.Checked.TheVariants.{Lawful, Broken, NotAJournal}
use Rattle.check_run.specs.Lines.{lines_of}
use Rattle.check_run.specs.Runs.{IsFrontOf}
use Rattle.check_run.specs.declared.ending.Ending.{Ending}
use Rattle.check_run.specs.declared.ending.Ending.TheVariants as endings

-- the number of the line, and the rule
abbrev pub broken_text : ℕ → ℕ → List ℕ
broken_text number rule = codes "broken " ++ decimal number ++ codes " " ++ decimal rule ++ 10 ∷ []

-- the number of the line
abbrev pub refused_text : ℕ → List ℕ
refused_text number = codes "refused " ++ decimal number ++ codes " J1" ++ 10 ∷ []

-- the line that is written where this is to be said, with its LF
abbrev pub answer_text : Checked → List ℕ
answer_text Lawful = codes "lawful" ++ 10 ∷ []
answer_text (Broken number rule) = broken_text number rule
answer_text (NotAJournal number) = refused_text number

abbrev pub ending_of : Checked → Ending
ending_of Lawful = endings.Lawful
ending_of (Broken number rule) = endings.Broken
ending_of (NotAJournal number) = endings.Refused

-- the text was judged
abbrev pub IsAnswer : Ending → Type 0
IsAnswer endings.Lawful = Unit {0}
IsAnswer endings.Broken = Unit {0}
IsAnswer endings.Refused = Unit {0}
IsAnswer endings.ReadFault = ⊥
IsAnswer endings.WriteFault = ⊥
IsAnswer endings.Memory = ⊥

-- This is to be said of the text, was written, and gives this ending.
pub record Judges (text bytes : List ℕ) (ending : Ending) : Type 0 where
  pub checked : Checked
  pub is : IsChecked (lines_of text) checked
  pub written : bytes ≡ answer_text checked
  pub ends : ending ≡ ending_of checked

-- what is to be said of the text gives this ending
pub record Ends (text : List ℕ) (ending : Ending) : Type 0 where
  pub checked : Checked
  pub is : IsChecked (lines_of text) checked
  pub gives : ending ≡ ending_of checked

-- a front of the line that says what is to be said of the text
pub record IsFrontOfAnswer (text bytes : List ℕ) : Type 0 where
  pub checked : Checked
  pub is : IsChecked (lines_of text) checked
  pub front : IsFrontOf (answer_text checked) bytes
