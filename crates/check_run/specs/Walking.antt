-- Text that comes in pieces, walked line by line.
use Rattle.std.specs.Prelude.{◌≡◌, ◌⊎◌, ℕ, ◌+◌, ◌<◌, List, ◌++◌, length, Option}
use Rattle.std.specs.Io.KnownBytes.{Consumes}
use Rattle.journal_check.specs.Judged.{IsChecked}
use Rattle.journal_check.specs.Walked.{Walked, IsAfter}
use Rattle.journal_check.specs.declared.checked.Checked.{Checked}
use Rattle.journal_check.specs.declared.checked.Checked.TheVariants.{Lawful}
use Rattle.check_run.specs.Lines.{IsCut, lines_of, lines_in}

-- a walk, and what was read of the line that has begun
pub record Stage : Type 0 where
  pub walk : Walked
  pub pending : List ℕ

-- What was read is whole lines, which were walked and are lawful, and then a part of a line, not too long.
pub record HasWalked (read : List ℕ) (now : Stage) : Type 0 where
  pub done : List (List ℕ)
  pub cut : IsCut read done now.pending
  pub after : IsAfter (lines_in done) now.walk
  pub lawful : now.walk.state ≡ Lawful
  pub short : length now.pending < 65538

-- some text was walked so
abbrev pub IsReady : Stage → Type 0
IsReady now = (read : List ℕ) × HasWalked read now

-- What a piece of the text says of all that was read: it is walked on; or this is to be said, however the text goes on.
abbrev pub GoesOn : Checked → Stage → List ℕ → Stage → Type 0
GoesOn Lawful old piece new = (read : List ℕ) → HasWalked read old → HasWalked (read ++ piece) new
GoesOn stopped old piece new = (read : List ℕ) → HasWalked read old → (more : List ℕ) → IsChecked (lines_of ((read ++ piece) ++ more)) stopped

-- The lines or the bytes that may still come are fewer: lines ended, or so many bytes of one came.
abbrev pub IsNearer : ℕ → Stage → Stage → Type 0
IsNearer count old new = (old.walk.number < new.walk.number) ⊎ ((new.walk.number ≡ old.walk.number) × (length new.pending ≡ length old.pending + count))

-- A front of the piece was taken, and the rest is left.
pub record HasTaken (old : Stage) (piece rest : List ℕ) (now : Stage) : Type 0 where
  pub front : List ℕ
  pub split : piece ≡ front ++ rest
  pub goes_on : GoesOn Lawful old front now
  pub nearer : IsNearer (length front) old now

-- what was read of a source up to now, and was walked
pub record Progress (left0 left : Option (List ℕ)) (now : Stage) : Type 0 where
  pub read : List ℕ
  pub consumed : Consumes left0 left read
  pub walked : HasWalked read now
