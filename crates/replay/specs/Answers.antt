-- What the program reads and writes, by its command.
use Rattle.std.specs.Prelude.{◌≡◌, ◌⊎◌, ℕ, ◌^◌, ◌<◌, ◌≤◌, Bool, List, length, Option, Some, None, IfSome, ⊤}
use Rattle.std.specs.Io.KnownBytes.{IsAtEnd}
use Rattle.journal_check.specs.Judged.{IsChecked}
use Rattle.journal_check.specs.declared.checked.Checked.TheVariants.{Lawful}
use Rattle.check_run.specs.declared.ending.Ending.{Ending}
use Rattle.check_run.specs.declared.ending.Ending.TheVariants as endings
use Rattle.check_run.specs.Lines.{lines_of}
use Rattle.check_run.specs.Runs.{Took, Writes, ReadsAndWrites, IsFrontOf}
use Rattle.check_run.specs.Answers.{Judges, Ends, IsFrontOfAnswer}
use Rattle.mrt_reader.specs.Files.{IsTextOf}
use Rattle.capture_run.specs.Answers.{IsTextOfFirst, IsTextOfWhole, IsRefusedText, IsFrontOfText}
use Rattle.capture_run.specs.Answers as captures
use Rattle.capture_run.specs.declared.ending.Ending.TheVariants as capture_endings
use Rattle.capture_run.specs.declared.ending.Ending.{Ending as CaptureEnding}
use Rattle.replay.specs.declared.status.Status.{Status}
use Rattle.replay.specs.declared.status.Status.TheVariants as statuses
use Rattle.command_line.specs.declared.words.Command.{Command}
use Rattle.command_line.specs.declared.words.Command.TheVariants.{Run, Gen, Check, Mrt}
use Rattle.event_gen.specs.Lines.{text}
use Rattle.command_line.specs.Commands.{most_events}
use Rattle.replay.specs.Commands.{usage_line}
use Rattle.replay.specs.Judging.{verdict, status_of}
use Rattle.replay.specs.Output.{IsOutput, IsRefusedOutput, IsOutputOfFront, IsOutputOfEnded, IsFrontOfOutput}
use Rattle.replay.specs.Totals.{IsTotalledOutput, IsFrontOfTotalled}

-- What was written where status 0 answers: an allowed output for all lines of the text, that of a seed with its totals; or that the
-- text is a lawful journal; or the text of all records of a capture.
abbrev pub HasDone : Option Command → Option (List ℕ) → Option (List ℕ) → Option (List ℕ) → Type 0
HasDone (Some (Run quiet)) left0 taken0 taken = Took left0 taken0 taken (λ text bytes. IsOutput quiet (lines_of text) bytes)
HasDone (Some (Gen seed count quiet)) left0 taken0 taken = Writes taken0 taken (IsTotalledOutput quiet (text seed count))
HasDone (Some Check) left0 taken0 taken = Took left0 taken0 taken (λ text bytes. Judges text bytes endings.Lawful)
HasDone (Some (Mrt as4)) left0 taken0 taken = Took left0 taken0 taken (λ file bytes. IsTextOf as4 file bytes None)
HasDone None left0 taken0 taken = ⊥

-- What was written where a line is refused: an allowed output for the lines before it, and that it is refused; or that the
-- line is none of a journal; or the lines of the records before one of a capture, and that it is refused.
abbrev pub HasRefused : Option Command → Option (List ℕ) → Option (List ℕ) → Option (List ℕ) → Type 0
HasRefused (Some (Run quiet)) left0 taken0 taken = Took left0 taken0 taken (IsRefusedOutput quiet)
HasRefused (Some (Gen seed count quiet)) left0 taken0 taken = Writes taken0 taken (IsRefusedOutput quiet (text seed count))
HasRefused (Some Check) left0 taken0 taken = Took left0 taken0 taken (λ text bytes. Judges text bytes endings.Refused)
HasRefused (Some (Mrt as4)) left0 taken0 taken = Took left0 taken0 taken (IsRefusedText as4)
HasRefused None left0 taken0 taken = ⊥

-- Of these bytes nothing is to be said but that they are a lawful journal, and so a run of `check` over them ends, unless they
-- have 2^32 lines or more.
abbrev pub IsLawfulToCheck : List ℕ → Type 0
IsLawfulToCheck bytes = length (lines_of bytes) < 2 ^ 32 → IsChecked (lines_of bytes) Lawful × ((ending : Ending) → Ends bytes ending → ending ≡ endings.Lawful)

-- what `check` says of what was written for all lines of the text, of those of a seed with the totals, or for those before a refused
-- one and that it is refused
abbrev pub HasLawful : Option Command → Option (List ℕ) → Option (List ℕ) → Option (List ℕ) → Type 0
HasLawful (Some (Run quiet)) left0 taken0 taken = Took left0 taken0 taken (λ text bytes. (IsOutput quiet (lines_of text) bytes ⊎ IsRefusedOutput quiet text bytes) × IsLawfulToCheck bytes)
HasLawful (Some (Gen seed count quiet)) left0 taken0 taken = Writes taken0 taken (λ bytes. (IsTotalledOutput quiet (text seed count) bytes ⊎ IsRefusedOutput quiet (text seed count) bytes) × IsLawfulToCheck bytes)
HasLawful (Some Check) left0 taken0 taken = ⊤
HasLawful (Some (Mrt as4)) left0 taken0 taken = ⊤
HasLawful None left0 taken0 taken = ⊤

-- what was written where a journal breaks a rule, which `check` alone says
abbrev pub HasBroken : Option Command → Option (List ℕ) → Option (List ℕ) → Option (List ℕ) → Type 0
HasBroken (Some (Run quiet)) left0 taken0 taken = ⊥
HasBroken (Some (Gen seed count quiet)) left0 taken0 taken = ⊥
HasBroken (Some Check) left0 taken0 taken = Took left0 taken0 taken (λ text bytes. Judges text bytes endings.Broken)
HasBroken (Some (Mrt as4)) left0 taken0 taken = ⊥
HasBroken None left0 taken0 taken = ⊥

-- What was read and written where a read failed: an allowed output of the lines that had ended in what was read; nothing of
-- a check; the lines of the whole records of a capture.
abbrev pub HasSoFar : Option Command → Option (List ℕ) → Option (List ℕ) → Option (List ℕ) → Option (List ℕ) → Type 0
HasSoFar (Some (Run quiet)) left0 left taken0 taken = ReadsAndWrites left0 left taken0 taken (IsOutputOfEnded quiet)
HasSoFar (Some (Gen seed count quiet)) left0 left taken0 taken = ⊥
HasSoFar (Some Check) left0 left taken0 taken = taken ≡ taken0
HasSoFar (Some (Mrt as4)) left0 left taken0 taken = ReadsAndWrites left0 left taken0 taken (IsTextOfWhole as4)
HasSoFar None left0 left taken0 taken = ⊥

-- what was written where there was no memory: an allowed output of some first lines, or the lines of some first records; else nothing
abbrev pub HasFirst : Option Command → Option (List ℕ) → Option (List ℕ) → Option (List ℕ) → Type 0
HasFirst (Some (Run quiet)) left0 taken0 taken = Took left0 taken0 taken (IsOutputOfFront quiet)
HasFirst (Some (Gen seed count quiet)) left0 taken0 taken = Writes taken0 taken (IsOutputOfFront quiet (text seed count))
HasFirst (Some Check) left0 taken0 taken = taken ≡ taken0
HasFirst (Some (Mrt as4)) left0 taken0 taken = Took left0 taken0 taken (IsTextOfFirst as4)
HasFirst None left0 taken0 taken = taken ≡ taken0

-- what was written where a write failed: a front of what may be written
abbrev pub HasFront : Option Command → Option (List ℕ) → Option (List ℕ) → Option (List ℕ) → Type 0
HasFront (Some (Run quiet)) left0 taken0 taken = Took left0 taken0 taken (IsFrontOfOutput quiet)
HasFront (Some (Gen seed count quiet)) left0 taken0 taken = Writes taken0 taken (IsFrontOfTotalled quiet (text seed count))
HasFront (Some Check) left0 taken0 taken = Took left0 taken0 taken IsFrontOfAnswer
HasFront (Some (Mrt as4)) left0 taken0 taken = Took left0 taken0 taken (IsFrontOfText as4)
HasFront None left0 taken0 taken = Writes taken0 taken (IsFrontOf usage_line)

-- the status of each ending of a check
abbrev pub status_for : Ending → Status
status_for endings.Lawful = statuses.Ok
status_for endings.Broken = statuses.Broken
status_for endings.Refused = statuses.Refused
status_for endings.ReadFault = statuses.ReadFault
status_for endings.WriteFault = statuses.WriteFault
status_for endings.Memory = statuses.Memory

-- what is to be said of the text as a journal gives this status
pub record IsJudged (text : List ℕ) (status : Status) : Type 0 where
  pub ending : Ending
  pub ends : Ends text ending
  pub gives : status ≡ status_for ending

-- the status of each ending of a conversion
abbrev pub status_of_capture : CaptureEnding → Status
status_of_capture capture_endings.Done = statuses.Ok
status_of_capture capture_endings.Refused = statuses.Refused
status_of_capture capture_endings.ReadFault = statuses.ReadFault
status_of_capture capture_endings.WriteFault = statuses.WriteFault
status_of_capture capture_endings.Memory = statuses.Memory

-- the text of the file as a capture gives this status
pub record IsConverted (as4 : Bool) (file : List ℕ) (status : Status) : Type 0 where
  pub ending : CaptureEnding
  pub ends : captures.Ends as4 file ending
  pub gives : status ≡ status_of_capture ending

-- `run`, `check` and `mrt` read all that there is where the answer is 0; `gen` reads nothing
abbrev pub HasRead : Option Command → Option (List ℕ) → Type 0
HasRead (Some (Run quiet)) left = IsAtEnd left
HasRead (Some (Gen seed count quiet)) left = ⊤
HasRead (Some Check) left = IsAtEnd left
HasRead (Some (Mrt as4)) left = IsAtEnd left
HasRead None left = ⊤

-- No line of a seed is refused, with as many events as there may be.
abbrev pub SeedsAreAccepted : Type 0
SeedsAreAccepted = (seed count : ℕ) → count ≤ most_events → verdict (text seed count) ≡ None

-- No line of the text that the records of a capture give is refused.
abbrev pub CapturesAreAccepted : Type 0
CapturesAreAccepted = (as4 : Bool) (file text : List ℕ) → IsTextOf as4 file text None → verdict text ≡ None

-- where the answer is 0, 1 or 3, the text alone decides which
abbrev pub IsByText : Option Command → Option (List ℕ) → Status → Type 0
IsByText (Some (Run quiet)) left0 status = IfSome left0 (λ text. status ≡ status_of (verdict text))
IsByText (Some (Gen seed count quiet)) left0 status = status ≡ status_of (verdict (text seed count))
IsByText (Some Check) left0 status = IfSome left0 (λ text. IsJudged text status)
IsByText (Some (Mrt as4)) left0 status = IfSome left0 (λ file. IsConverted as4 file status)
IsByText None left0 status = ⊤

-- the answers of a command where no read and no write failed
abbrev pub IsUnfailing : Option Command → Option (List ℕ) → Status → Type 0
IsUnfailing (Some (Run quiet)) left0 status = IfSome left0 (λ text. (status ≡ status_of (verdict text)) ⊎ (status ≡ statuses.Memory))
IsUnfailing (Some (Gen seed count quiet)) left0 status = (status ≡ status_of (verdict (text seed count))) ⊎ (status ≡ statuses.Memory)
IsUnfailing (Some Check) left0 status = IfSome left0 (λ text. IsJudged text status ⊎ (status ≡ statuses.Memory))
IsUnfailing (Some (Mrt as4)) left0 status = IfSome left0 (λ file. IsConverted as4 file status ⊎ (status ≡ statuses.Memory))
IsUnfailing None left0 status = (status ≡ statuses.Usage) ⊎ (status ≡ statuses.Memory)
