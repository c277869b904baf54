-- What contracts see of a journal.
use Rattle.std.specs.Prelude.{◌≡◌, ℕ, Bool, List, [], ◌++◌, map, refl}
use Rattle.std.specs.Coded.{Coded, code_by, coded×, coded_ℕ, coded_bool, coded_list}
use Rattle.journal_text.specs.Texts.{text_of}
use Rattle.journal_text.specs.Lines.{Value}
use Rattle.journal_text.specs.Lines.{Entry}
use Rattle.journal_text.specs.Lines.{Line}
use Rattle.journal_text.specs.declared.line.Line.TheVariants as lines

-- the text that is ready, the text of the lines behind it, whether the journal's own lines are left out, and whether its lines are IPv6's
pub record Journaled : Type 0 where
  pub text : List ℕ
  pub pending : List ℕ
  pub quiet : Bool
  pub v6 : Bool

abbrev pub journaled_code : Coded Journaled
journaled_code =
    code_by (List ℕ × (List ℕ × (Bool × Bool))) (coded× (coded_list coded_ℕ) (coded× (coded_list coded_ℕ) (coded× coded_bool coded_bool)))
    (λ j. (j.text, (j.pending, (j.quiet, j.v6)))) (λ p. record { text = p.0; pending = p.1.0; quiet = p.1.1.0; v6 = p.1.1.1 }) (λ _. refl)

-- the journal with these lines after its own, of which a quiet one has the text of those that aren't the journal's
abbrev pub with_lines : Journaled → List Line → Journaled
with_lines j lines = record { text = j.text; pending = j.pending ++ text_of j.v6 j.quiet lines; quiet = j.quiet; v6 = j.v6 }

-- the journal with these entries after its lines
abbrev pub with_entries : Journaled → List (Entry Value) → Journaled
with_entries j entries = with_lines j (map (λ e. lines.Journal e) entries)

-- the journal with all of its text ready
abbrev pub flushed : Journaled → Journaled
flushed j = record { text = j.text ++ j.pending; pending = []; quiet = j.quiet; v6 = j.v6 }

-- the journal with this text as the one that is ready
abbrev pub with_text : Journaled → List ℕ → Journaled
with_text j text = record { text = text; pending = j.pending; quiet = j.quiet; v6 = j.v6 }

-- these entries were appended, and this is said of them
abbrev pub Adds : (List (Entry Value) → Type 0) → Journaled → Journaled → Type 0
Adds P old new = (entries : List (Entry Value)) × (new ≡ with_entries old entries) × P entries
