-- For each text exactly one output is allowed.
use Rattle.std.specs.Prelude.{◌≡◌, ℕ, Bool, List, Option, Some}
use Rattle.command_line.specs.declared.words.Command.{Command}
use Rattle.router.specs.Told.{Lives}
use Rattle.replay.specs.Output.{IsOutput, IsRefusedOutput, LiveThrough}
use Rattle.replay.specs.Totals.{IsTotalledOutput}
use Rattle.replay.specs.Answers.{HasDone, HasRefused, HasBroken}

-- Two allowed outputs of the same lines are equal, quiet or not: so what is printed is a function of the text.
abbrev pub OutputIsOne : Type 0
OutputIsOne = (quiet : Bool) (lines : List (List ℕ)) (one other : List ℕ) → IsOutput quiet lines one → IsOutput quiet lines other → one ≡ other

-- So are two of a text with a refused line,
abbrev pub RefusalIsOne : Type 0
RefusalIsOne = (quiet : Bool) (text one other : List ℕ) → IsRefusedOutput quiet text one → IsRefusedOutput quiet text other → one ≡ other

-- and two of generated events, with their totals.
abbrev pub TotalsAreOne : Type 0
TotalsAreOne = (quiet : Bool) (text one other : List ℕ) → IsTotalledOutput quiet text one → IsTotalledOutput quiet text other → one ≡ other

-- What is live behind lines, by what their events make of it, is one.
abbrev pub LiveIsOne : Type 0
LiveIsOne = (n : ℕ) (live one other : Lives) (lines : List (List ℕ)) → LiveThrough n live lines one → LiveThrough n live lines other → one ≡ other

-- Two calls with the same command over the same text, to a sink that had the same, left the same in it, where both answered that all was
-- done; where both answered that a line is refused; and where both answered that the journal breaks a rule.
pub record CallsAgree (command : Option Command) (text taken : List ℕ) (one other : Option (List ℕ)) : Type 0 where
  pub done : HasDone command (Some text) (Some taken) one → HasDone command (Some text) (Some taken) other → one ≡ other
  pub refused : HasRefused command (Some text) (Some taken) one → HasRefused command (Some text) (Some taken) other → one ≡ other
  pub broken : HasBroken command (Some text) (Some taken) one → HasBroken command (Some text) (Some taken) other → one ≡ other

abbrev pub CallsAreOne : Type 0
CallsAreOne = (command : Option Command) (text taken : List ℕ) (one other : Option (List ℕ)) → CallsAgree command text taken one other
