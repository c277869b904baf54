-- What `mrt` writes, and how it ends.
use Rattle.std.specs.Prelude.{◌≡◌, ◌⊎◌, ℕ, Bool, List, ◌++◌, Option, Some, None}
use Rattle.std.specs.Io.KnownBytes.{IsAtEnd}
use Rattle.mrt_reader.specs.Records.{HoldNone}
use Rattle.mrt_reader.specs.Sessions.{Written}
use Rattle.mrt_reader.specs.Files.{HasRead, IsTextOf}
use Rattle.mrt_reader.specs.declared.answer.Code.{Code}
use Rattle.check_run.specs.Runs.{Took, ReadsAndWrites, IsFrontOf}
use Rattle.capture_run.specs.declared.ending.Ending.{Ending}
use Rattle.capture_run.specs.declared.ending.Ending.TheVariants as endings

-- the lines of a number of first records of a file
pub record IsTextOfFirst (as4 : Bool) (file bytes : List ℕ) : Type 0 where
  pub number : ℕ
  pub written : Written
  pub front : List ℕ
  pub rest : List ℕ
  pub split : file ≡ front ++ rest
  pub read : HasRead as4 front bytes number written

-- the lines of the whole records of what was read
pub record IsTextOfWhole (as4 : Bool) (read bytes : List ℕ) : Type 0 where
  pub first : IsTextOfFirst as4 read bytes
  pub none : HoldNone first.rest

-- the text of a file that is refused: the lines of the records before the refused one, and the line that says so
abbrev pub IsRefusedText : Bool → List ℕ → List ℕ → Type 0
IsRefusedText as4 file bytes = (code : Code) × IsTextOf as4 file bytes (Some code)

-- what may be written: the lines of a number of first records, or the whole text, with its last line
abbrev pub IsAllowedText : Bool → List ℕ → List ℕ → Type 0
IsAllowedText as4 file whole = IsTextOfFirst as4 file whole ⊎ ((end : Option Code) × IsTextOf as4 file whole end)

-- a front of what may be written
abbrev pub IsFrontOfText : Bool → List ℕ → List ℕ → Type 0
IsFrontOfText as4 file bytes = (whole : List ℕ) × IsFrontOf whole bytes × IsAllowedText as4 file whole

-- the ending of a file that ends so
abbrev pub ending_of : Option Code → Ending
ending_of None = endings.Done
ending_of (Some code) = endings.Refused

-- The reading of a file gives this ending.
pub record Ends (as4 : Bool) (file : List ℕ) (ending : Ending) : Type 0 where
  pub text : List ℕ
  pub end : Option Code
  pub is : IsTextOf as4 file text end
  pub gives : ending ≡ ending_of end

-- the text of the file alone decides
abbrev pub IsAnswer : Ending → Type 0
IsAnswer endings.Done = Unit {0}
IsAnswer endings.Refused = Unit {0}
IsAnswer endings.ReadFault = ⊥
IsAnswer endings.WriteFault = ⊥
IsAnswer endings.Memory = ⊥

-- what was read and written, by the ending
abbrev pub HasEnded : Bool → Option (List ℕ) → Option (List ℕ) → Option (List ℕ) → Option (List ℕ) → Ending → Type 0
HasEnded as4 left0 left taken0 taken endings.Done = Took left0 taken0 taken (λ file bytes. IsTextOf as4 file bytes None) × IsAtEnd left
HasEnded as4 left0 left taken0 taken endings.Refused = Took left0 taken0 taken (IsRefusedText as4)
HasEnded as4 left0 left taken0 taken endings.ReadFault = ReadsAndWrites left0 left taken0 taken (IsTextOfWhole as4)
HasEnded as4 left0 left taken0 taken endings.WriteFault = Took left0 taken0 taken (IsFrontOfText as4)
HasEnded as4 left0 left taken0 taken endings.Memory = Took left0 taken0 taken (IsTextOfFirst as4)
