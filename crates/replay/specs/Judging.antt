-- Which line is refused.
use Rattle.std.specs.Prelude.{ℕ, ◌+◌, ◌==◌, false, if◌then◌else◌, List, [], ◌∷◌, Option, Some, None, Result, Ok, Err}
use Rattle.journal_text.specs.declared.line.Code.{Code}
use Rattle.journal_text.specs.declared.line.Code.TheVariants.{E6}
use Rattle.event_text.specs.declared.event.FileEvent.{FileEvent}
use Rattle.event_text.specs.FileEvents.{read_file, file_refusal}
use Rattle.event_text.specs.Declarations.{Declaration, no_declaration}
use Rattle.router.specs.Told.{declared_behind}
use Rattle.replay.specs.declared.status.Status.{Status}
use Rattle.replay.specs.declared.status.Status.TheVariants as statuses
use Rattle.check_run.specs.Lines.{lines_of}

-- an event in line n, by why it may not stand there
abbrev pub placed : ℕ → Option Code → FileEvent → Result FileEvent Code
placed n (Some code) event = Err code
placed n None event = if n == 4294967296 then Err E6 else Ok event

abbrev pub judged : ℕ → Declaration → Result FileEvent Code → Result FileEvent Code
judged n d (Err code) = Err code
judged n d (Ok event) = placed n (file_refusal d event) event

-- The event of line n, or the code with which the line is refused: what it says, then whether that may stand behind what was
-- declared, and at last its number. What was declared is what IPv4's network knows of it.
unfoldable pub judge : ℕ → Declaration → List ℕ → Result FileEvent Code
judge n d line = judged n d (read_file d.profile line)

-- line n where it is refused, else what is said of the later ones
abbrev pub refused_or : ℕ → Result FileEvent Code → (FileEvent → Option (ℕ × Code)) → Option (ℕ × Code)
refused_or n (Err code) later = Some (n, code)
refused_or n (Ok event) later = later event

-- of lines from number n on, the first that is refused, and its code
abbrev pub verdict_from : ℕ → Declaration → List (List ℕ) → Option (ℕ × Code)
verdict_from n d [] = None
verdict_from n d (line ∷ lines) = refused_or n (judge n d line) (λ event. verdict_from (n + 1) (declared_behind d event) lines)

-- the first refused line of a text and its code; none where the text is accepted
abbrev pub verdict : List ℕ → Option (ℕ × Code)
verdict text = verdict_from 1 (no_declaration false) (lines_of text)

-- the status that a verdict asks for
abbrev pub status_of : Option (ℕ × Code) → Status
status_of None = statuses.Ok
status_of (Some refusal) = statuses.Refused
