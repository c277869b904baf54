-- Text that comes in pieces.
use Rattle.std.specs.Prelude.{◌≡◌, ℕ, ◌+◌, ◌<◌, ◌≤◌, ◌^◌, Bool, true, false, List, ◌++◌, length, ◌⊎◌, Err}
use Rattle.journal_text.specs.declared.line.Code.{Code}
use Rattle.journal_text.specs.declared.line.Line.TheVariants.{Refused}
use Rattle.journal_text.specs.Journals.{Journaled}
use Rattle.journal_text.specs.Texts.{line_text}
use Rattle.journal_laws.specs.FamilyLines.{FamilyLine, text_of}
use Rattle.router.specs.Networks.{Networks, Routed, RouterStands, first_networks}
use Rattle.replay.specs.Judging.{judge}
use Rattle.check_run.specs.Lines.{IsCut, lines_in}
use Rattle.replay.specs.Output.{Step, Run, RunIn, JournalsLead, AllAreHeard, AllAreSent, AllStand, IsRefusedOutput, IsFrontOfOutput}

-- a router that may step line n: memory never ran out, its state is sound, and it has stepped the lines before
pub record IsReady (n : ℕ) (router : Routed) : Type 0 where
  pub stands : RouterStands router
  pub counted : n ≡ router.first.events + 1
  pub few : n ≤ 2 ^ 32

-- the text of all lines of a journal, whether it was made or not
abbrev pub made : Journaled → List ℕ
made j = j.text ++ j.pending

-- What was read is whole lines, which were all stepped, in so many turns, and whose output is this, and then a part of a line.
pub record HasStepped (quiet : Bool) (read : List ℕ) (number : ℕ) (m : Networks) (turns : ℕ) (pending output : List ℕ) : Type 0 where
  pub done : List (List ℕ)
  pub cut : IsCut read done pending
  pub count : number ≡ length done + 1
  pub stands : AllStand m
  pub out : List FamilyLine
  pub run : Run 1 first_networks (lines_in done) out m
  pub taken : RunIn 1 first_networks (lines_in done) out m turns
  pub lawful : JournalsLead out m
  pub heard : AllAreHeard out m
  pub sent : AllAreSent m
  pub written : output ≡ text_of quiet out

-- However the text goes on, a line of it is refused, with this output.
abbrev pub IsRefusedAt : Bool → List ℕ → List ℕ → Type 0
IsRefusedAt quiet read output = (more : List ℕ) → IsRefusedOutput quiet (read ++ more) output

-- However the text goes on, this is a front of what may be written for it.
abbrev pub IsFrontAt : Bool → List ℕ → List ℕ → Type 0
IsFrontAt quiet read output = (more : List ℕ) → IsFrontOfOutput quiet (read ++ more) output

-- Line n was accepted and stepped, in so many turns, and what it says was written. A lawful journal before it is one with its entries, too, and what peers
-- heard before it leads on with its lines.
pub record StepsLine (quiet : Bool) (n : ℕ) (old : Networks) (line before now : List ℕ) (new : Networks) (turns : ℕ) : Type 0 where
  pub said : List FamilyLine
  pub step : Step n old line said new
  pub took : step.turns ≡ turns
  pub leads : (earlier : List FamilyLine) → JournalsLead earlier old → JournalsLead (earlier ++ said) new
  pub hears : (earlier : List FamilyLine) → JournalsLead earlier old → AllAreHeard earlier old → AllAreHeard (earlier ++ said) new
  pub stands : AllStand new
  pub written : now ≡ before ++ text_of quiet said

-- line n was refused, and nothing else was written
pub record RefusesLine (n : ℕ) (old : Networks) (line before now : List ℕ) : Type 0 where
  pub code : Code
  pub refused : judge n old.first.declared line ≡ Err code
  pub written : now ≡ before ++ line_text false (Refused n code)

-- what a step of the stream says of all that was read and written so far, where taken was written earlier
abbrev pub GoesOn : Bool → Bool → (ℕ × Networks × ℕ × List ℕ) → List ℕ → List ℕ → List ℕ → (ℕ × Networks × ℕ × List ℕ) → Type 0
GoesOn quiet true old piece before now new = (read taken : List ℕ) → HasStepped quiet read old.0 old.1 old.2 old.3 (taken ++ before) → HasStepped quiet (read ++ piece) new.0 new.1 new.2 new.3 (taken ++ now)
GoesOn quiet false old piece before now new = (read taken : List ℕ) → HasStepped quiet read old.0 old.1 old.2 old.3 (taken ++ before) → IsRefusedAt quiet (read ++ piece) (taken ++ now)

-- The lines or the bytes that may still come are fewer: a line ended, or so many bytes came.
abbrev pub IsNearer : ℕ → (ℕ × Networks × ℕ × List ℕ) → (ℕ × Networks × ℕ × List ℕ) → Type 0
IsNearer count old new = (old.0 < new.0) ⊎ ((new.0 ≡ old.0) × (length new.3 ≡ length old.3 + count))

-- A front of the piece was taken, and the rest is left.
pub record HasTaken (quiet : Bool) (old : ℕ × Networks × ℕ × List ℕ) (piece rest before now : List ℕ) (new : ℕ × Networks × ℕ × List ℕ) : Type 0 where
  pub front : List ℕ
  pub split : piece ≡ front ++ rest
  pub goes_on : GoesOn quiet true old front before now new
  pub nearer : IsNearer (length front) old new
